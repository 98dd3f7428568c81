-- `segment_idx_bounds`: n indices in k segments, one after the other, whose sizes differ by at most one, the longer ones first. Definitions only.
use Rattle.std.specs.Prelude.{cond, ℕ, zero, suc, ◌+◌, ◌/◌, ◌%◌, ltb}

abbrev pub segment_size : ℕ → ℕ → ℕ → ℕ
segment_size n k i = n / k + cond (ltb i (n % k)) 1 0

-- where segment i starts: after the segments before it
unfoldable pub segment_start : ℕ → ℕ → ℕ → ℕ
segment_start n k zero = 0
segment_start n k (suc i) = segment_start n k i + segment_size n k i

abbrev pub segment_stop : ℕ → ℕ → ℕ → ℕ
segment_stop n k i = segment_start n k i + segment_size n k i
