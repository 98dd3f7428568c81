-- Sets of points that are not refused hold what the loops read.
use mathlib.Core.Path.{◌≡◌, refl, ap, ◌∙◌}
use mathlib.Core.Bool.{Bool, true, false, not, ◌&&◌, ◌||◌, true≢false}
use mathlib.Core.List.{◌++◌}
use Prim.Native.Nat.{ℕ, ◌*◌, ◌/◌, ◌%◌}
use native.Mathlib.Nat.{div-add-mod', mul_comm}
use native.Mathlib.Omega.{arith}
use lib.Dec.{T, ltb, eqb, nltb→le}
use lib.Ieee.Fits.{and_l, and_r, eq→eqb}
use lib.ListN.{length}
use borrow.Author.Tests.{ltb-false, eqb-true}
use Rattle.definitions.specs.Points.{UnstructuredPoints, stride}
use Rattle.definitions.specs.Rules.{refusal, over_points, over_sets, point_rules, set_rules, run_rules}
use Rattle.laws.proofs.Refusals.{none_broken_law, none_refused, broken_left, broken_right}
use Rattle.parallel_serial.specs.declared.RunSpec.{RunSpec}
use Rattle.parallel_serial.specs.declared.Sets.{Sets}
use Rattle.parallel_serial.specs.declared.Sets.TheVariants.{Auto, Cross}
use Rattle.parallel_serial.specs.Drive.{run_of}
use Rattle.parallel_serial.proofs.Refusals.{Drivable, accepted}
use Rattle.unstructured_points.specs.declared.PointSet.{PointSet}
use Rattle.unstructured_points.specs.Readings.{points_of}
use Rattle.unstructured_points.specs.Sets.{sets_of}
use Rattle.unstructured.specs.Pairs.{Held, HeldSets}

either : (a b : Bool) → (a || b) ≡ false → (a ≡ false) × (b ≡ false)
either true b h = absurd (true≢false h)
either false b h = (refl, h)

-- a rule that asks that two numbers are equal, and the rules after it
equal : (a b : ℕ) (m : Bool) → T (not (not (eqb a b)) && m) → (a ≡ b) × T m
equal a b m h = go (eqb a b) refl h
  where
    go : (t : Bool) → eqb a b ≡ t → T (not (not t) && m) → (a ≡ b) × T m
    go true e k = (eqb-true a b e, k)
    go false e k = absurd k

thirds : (n k : ℕ) → n % k ≡ 0 → n / k ≡ 3 → k * 3 ≡ n
thirds n k h e = mul_comm k 3 ∙ omega (arith, div-add-mod' n k, ap (λ (x : ℕ). x * k) e)

held : (s : UnstructuredPoints) → over_points s ≡ false → refusal (point_rules s) ≡ 0 → Held s
held s o h =
    let l = either (ltb 4096 s.count) (ltb 8192 (stride s)) o in
    let t1 = none_broken_law (point_rules s) tt (eq→eqb h) in
    let t2 = and_r (not (eqb s.count 0)) _ t1 in
    let v = equal (length s.values) (length s.positions) _ (and_r (not (ltb (stride s) s.count)) _ t2) in
    let r = equal (length s.positions % stride s) 0 _ v.1 in
    let d = equal (length s.positions / stride s) 3 _ r.1 in
    let w = equal (length s.weights) s.count _ d.1 in
    let p = thirds (length s.positions) (stride s) r.0 d.0 in
    record {
      few = ltb-false 4096 s.count l.0;
      inside = nltb→le (stride s) s.count (and_l (not (ltb (stride s) s.count)) _ t2);
      limit = ltb-false 8192 (stride s) l.1;
      positions = omega (arith, p);
      values = omega (arith, p, v.0);
      weights = w.0;
    }

held_sets : (sets : Sets PointSet) → over_sets (sets_of sets) ≡ false → refusal (set_rules (sets_of sets)) ≡ 0 → HeldSets sets
held_sets (Auto a) o h = held (points_of a) o h
held_sets (Cross a b) o h =
    let p = points_of a in
    let q = points_of b in
    let l = either (over_points p) (over_points q) o in
    let m = none_broken_law (point_rules p ++ point_rules q) tt (eq→eqb h) in
    (held p l.0 (none_refused (point_rules p) (broken_left (point_rules p) (point_rules q) m)), held q l.1 (none_refused (point_rules q) (broken_right (point_rules p) (point_rules q) m)))

-- what follows for the sets of an accepted run, and for its shape
pub held_run : (sets : Sets PointSet) (spec : RunSpec) (len : ℕ) → refusal (run_rules (run_of (sets_of sets) spec) len) ≡ 0 → HeldSets sets × Drivable spec len
held_run sets spec len h =
    let a = accepted (sets_of sets) spec len h in
    (held_sets sets a.limits a.own, a.drivable)
