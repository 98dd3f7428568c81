-- What the runs share: the run that a caller states, its refusal by numbers, and the scratch pack.
use Rattle.std.specs.Prelude.{List, [], ◌∷◌, Bool, false, not, cond, ◌&&◌, ◌||◌, ℕ, ◌*◌, leb, ltb, eqb, length, replicate, Float}
use Rattle.definitions.specs.Floats.{zero_f}
use Rattle.definitions.specs.Bins.{bins}
use Rattle.definitions.specs.Reducer.{kind_size}
use Rattle.definitions.specs.Run.{Sets, Run}
use Rattle.definitions.specs.State.{merge_packs}
use Rattle.definitions.specs.Rules.{Rule, rule, refusal, over_pack, edge_rules, kind_rules}
use Rattle.laws.specs.Refusals.{or_else}
use Rattle.reducer.specs.Readings.{op_of, edges_of, kind_of}
use Rattle.state_refusals.specs.declared.PackShape.{PackShape}
use Rattle.parallel_serial.specs.declared.Shape.{Shape}
use Rattle.parallel_serial.specs.declared.RunSpec.{RunSpec}

-- a pack of 4,096 zeros; shut, so that no goal writes it out
unfoldable pub zero_pack : List Float
zero_pack = replicate 4096 (zero_f false)

-- scratch is added to the front of the caller's pack, caller's number first; nothing where it is longer
unfoldable pub added_scratch : List Float → List Float → List Float
added_scratch pack scratch = cond (leb (length scratch) (length pack)) (merge_packs (length scratch) pack scratch) pack

-- number 7 of a run but for its sets, by numbers: the bins, the state's size, and the stated pack
unfoldable pub over_numbers : ℕ → ℕ → PackShape → Bool
over_numbers n size pack = ltb 256 n || ltb 256 size || over_pack pack.n_states pack.state_size

-- 23 and 24, by numbers: the bins, the state's size, and the slice's length
abbrev pub shape_rules : Shape → ℕ → ℕ → ℕ → List Rule
shape_rules shape n size len =
    rule 23 (not (eqb shape.members 1 && eqb shape.teams 1)) ∷ rule 24 (not (eqb shape.pack.n_states n && eqb shape.pack.state_size size && leb (n * size) len)) ∷ []

-- the refusal of a run whose sets are within the limits, by the number of their own rules and that of the rules on their pairs
unfoldable pub run_number : ℕ → ℕ → RunSpec → ℕ → ℕ
run_number sets pairs spec len =
    let e = edges_of spec.edges in
    let k = kind_of spec.kind in
    cond (over_numbers (bins e) (kind_size k) spec.shape.pack) 7
    (or_else sets (or_else (refusal (edge_rules e)) (or_else (refusal (kind_rules k)) (or_else pairs (refusal (shape_rules spec.shape (bins e) (kind_size k) len))))))

-- a run by its sets and what its caller states
unfoldable pub run_of : Sets → RunSpec → Run
run_of sets spec =
    record {
      sets = sets;
      op = op_of spec.op;
      kind = kind_of spec.kind;
      edges = edges_of spec.edges;
      states = spec.shape.pack.n_states;
      size = spec.shape.pack.state_size;
      members = spec.shape.members;
      teams = spec.shape.teams;
    }
