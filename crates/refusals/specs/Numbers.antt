-- The customer's number of each refusal, and of an answer.
use Rattle.std.specs.Prelude.{ℕ}
use Rattle.std.specs.declared.result.Result.{Result}
use Rattle.std.specs.declared.result.Result.TheVariants.{Ok, Err}
use Rattle.refusals.specs.declared.Refusal.{Refusal}
use Rattle.refusals.specs.declared.Refusal.TheVariants.{NoPoints, StrideBelowPoints, ValuesLength, PositionsLength, NotThreeComponents, WeightsLength, OverLimit, NoBins, MaxNotAboveMin, NotFinite, NoBinSize, TooFewEdges, NotIncreasing, EmptyAxis, XStride, ZStride, YStride, BlockLength, ComponentsLength, WidthNotPositive, BlockOrder, NoPairs, NotSingle, PackShape, StateIndex, SegmentIndex, RecordLength, FileUnreadable}

abbrev pub refusal_number : Refusal → ℕ
refusal_number NoPoints = 1
refusal_number StrideBelowPoints = 2
refusal_number ValuesLength = 3
refusal_number PositionsLength = 4
refusal_number NotThreeComponents = 5
refusal_number WeightsLength = 6
refusal_number OverLimit = 7
refusal_number NoBins = 8
refusal_number MaxNotAboveMin = 9
refusal_number NotFinite = 10
refusal_number NoBinSize = 11
refusal_number TooFewEdges = 12
refusal_number NotIncreasing = 13
refusal_number EmptyAxis = 14
refusal_number XStride = 15
refusal_number ZStride = 16
refusal_number YStride = 17
refusal_number BlockLength = 18
refusal_number ComponentsLength = 19
refusal_number WidthNotPositive = 20
refusal_number BlockOrder = 21
refusal_number NoPairs = 22
refusal_number NotSingle = 23
refusal_number PackShape = 24
refusal_number StateIndex = 25
refusal_number SegmentIndex = 26
refusal_number RecordLength = 27
refusal_number FileUnreadable = 28

-- of a call's refusal, 0 where it is accepted; `result_ok` of std is what it yields
abbrev pub number_of : {A : Type 0} → Result A Refusal → ℕ
number_of (Ok x) = 0
number_of (Err r) = refusal_number r
