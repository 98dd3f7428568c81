-- What stands for a run in demand 3's replacements counts like it: a grid's cells listed as points, and a multiplied run's points in another order. Assumes nothing.
use mathlib.Core.Path.{◌≡◌, refl, sym, ap, ◌∙◌}
use mathlib.Core.List.Permᴰ
use mathlib.Core.List.{List, [], ◌∷◌, map, Permᴰ}
use mathlib.Core.Bool.{false, not, ◌||◌}
use Prim.Native.Nat.{ℕ, ◌*◌, ◌/◌, ◌%◌, max}
use lib.Dec.{T, ltb, eqb}
use lib.ListN.{length}
use lib.IntN.{ℤ, nat_abs, ◌+ℤ◌, *ℤ_comm}
use lib.Ieee.{binary64, of_int}
use Rattle.definitions.specs.Bins.{bins, bin_of}
use Rattle.definitions.specs.Points.{UnstructuredPoints, stride, points}
use Rattle.definitions.specs.Reducer.{PairOperation, elementwise_multiply, Kind, comp0_mean, component_sum_mean, component_sum_histogram, state_kind}
use Rattle.definitions.specs.Run.{Sets, one_points, two_points, Run, number_at, state_at}
use Rattle.definitions.specs.Rules.{rule, refusal, point_rules, points_call_rules, set_rules, pair_rules, over_points, over_sets, over_edges, over_state, over_pack, over_run, accepted}
use Rattle.definitions.specs.Survey.{ReadingZ, PointZ, point_z, Cloud, one, two, cloud, cloud_sum, component_z, value_z, term_z, in_bin_z, pair_z, Reads, WholePoint, Near, listed, pairs, value_size, unit}
use Rattle.laws.proofs.Integers.{square_flip}
use Rattle.laws.proofs.Sums.{pair_sum_perm, cross_sum_perm}
use Rattle.laws.proofs.Lists.{all_perm, length_perm, later_count_perm, largest_perm}
use Rattle.laws.proofs.Grid.{same_bool}
use Rattle.laws.proofs.Refusals.{rule_passed, refusal_split, refusal_join}
use Rattle.survey.specs.Demand3.{with_sets, ListedSets, one_listed, two_listed, RelistedPoints, RelistedSets, one_relisted, two_relisted, Replaced, same, grid, relisted, Each, ends, also}
use Rattle.survey.proofs.Accepted.{Passed, passed, accept, or-false}
use Rattle.survey.proofs.Exact.{Like, like_same, Alike, none, next, turn, then}

-- ---- other sets that meet no number: the run is accepted as it was
record Clear (t : Sets) : Type 0 where
  limits : over_sets t ≡ false
  sets : refusal (set_rules t) ≡ 0
  pair : refusal (pair_rules t) ≡ 0

over_sets_law : (r : Run) → over_run r ≡ false → over_sets r.sets ≡ false
over_sets_law r h =
    (or-false (over_sets r.sets) (over_edges r.edges) (or-false (over_sets r.sets || over_edges r.edges) (over_state (state_kind r.kind))
    (or-false (over_sets r.sets || over_edges r.edges || over_state (state_kind r.kind)) (over_pack r.states r.size) h).0).0).0

accept_with : (r : Run) (n : ℕ) (t : Sets) → Passed r n → Clear t → T (accepted (with_sets r t) n)
accept_with r n t p c = accept (with_sets r t) n (record {
  limits = (λ i. (c.limits ∙ sym (over_sets_law r p.limits)) i || over_edges r.edges || over_state (state_kind r.kind) || over_pack r.states r.size) ∙ p.limits;
  sets = c.sets;
  edges = p.edges;
  kind = p.kind;
  pair = c.pair;
  last = p.last;
})

clear_one : (s : UnstructuredPoints) → refusal (points_call_rules s) ≡ 0 → Clear (one_points s)
clear_one s h = let p = rule_passed 7 (over_points s) (refusal (point_rules s)) tt h in record { limits = p.0; sets = p.1; pair = refl }

clear_two : (s t : UnstructuredPoints) → refusal (points_call_rules s) ≡ 0 → refusal (points_call_rules t) ≡ 0 → Clear (two_points s t)
clear_two s t h k =
    let p = clear_one s h in
    let q = clear_one t k in
    record { limits = (λ i. p.limits i || q.limits i); sets = refusal_join (point_rules s) (point_rules t) tt p.sets q.sets; pair = refl }

-- ---- a grid listed as points: the same cloud
listed_clear : {s t : Sets} → ListedSets s t → Clear t
listed_clear (one_listed {s = s} h) = clear_one s h.judged
listed_clear (two_listed {s = s} {t = t} h k) = clear_two s t h.judged k.judged

listed_cloud : {s t : Sets} → ListedSets s t → cloud s ≡ cloud t
unfolding cloud
listed_cloud (one_listed h) = ap one (sym h.cells)
listed_cloud (two_listed h k) = λ i. two (sym h.cells i) (sym k.cells i)

listed_reads : {s t : Sets} → ListedSets s t → Reads t
listed_reads (one_listed h) = h.whole
listed_reads (two_listed h k) = (h.whole, k.whole)

-- ---- points in another order: a multiplied pair is the same either way round
record Reordered (c d : Cloud) : Type 0 where
  order : Permᴰ (listed c) (listed d)
  count : pairs c ≡ pairs d
  sum : (f : PointZ → PointZ → ℤ) → ((a b : PointZ) → f a b ≡ f b a) → cloud_sum f c ≡ cloud_sum f d

relisted_cloud : {s t : Sets} → RelistedSets s t → Reordered (cloud s) (cloud t)
unfolding cloud
relisted_cloud (one_relisted h) = let p = Permᴰ.map point_z h.order in record { order = p; count = later_count_perm p; sum = λ f e. pair_sum_perm f e p }
relisted_cloud (two_relisted {s' = s} {t = t} h k) =
    let p = Permᴰ.map point_z h.order in
    let q = Permᴰ.map point_z k.order in
    record {
      order = Permᴰ.trans (Permᴰ.append_right (map point_z (points s)) p) (Permᴰ.append_left (map point_z (points t)) q);
      count = (λ i. length_perm p i * length_perm q i);
      sum = λ f e. cross_sum_perm f p q;
    }

relisted_reads : {s t : Sets} → RelistedSets s t → Reads s → Reads t
relisted_reads (one_relisted h) x = all_perm WholePoint h.order x
relisted_reads (two_relisted h k) x = (all_perm WholePoint h.order x.0, all_perm WholePoint k.order x.1)

relisted_back : {s t : Sets} → RelistedSets s t → RelistedSets t s
relisted_back (one_relisted h) = one_relisted (record { judged = sym h.judged; order = Permᴰ.symm h.order })
relisted_back (two_relisted h k) = two_relisted (record { judged = sym h.judged; order = Permᴰ.symm h.order }) (record { judged = sym k.judged; order = Permᴰ.symm k.order })

-- slices of the same lengths, with the same count and stride, are judged alike
pub relisted_slices : (s t : UnstructuredPoints) → s.count ≡ t.count → stride s ≡ stride t → length s.positions ≡ length t.positions → length s.values ≡ length t.values
    → length s.weights ≡ length t.weights → Permᴰ (points s) (points t) → RelistedPoints s t
relisted_slices s t c d p v w o = record {
  judged = λ i. refusal (
      rule 7 (ltb 4096 (c i) || ltb 8192 (d i))
      ∷ rule 1 (eqb (c i) 0)
      ∷ rule 2 (ltb (d i) (c i))
      ∷ rule 3 (not (eqb (v i) (p i)))
      ∷ rule 4 (not (eqb (p i % d i) 0))
      ∷ rule 5 (not (eqb (p i / d i) 3))
      ∷ rule 6 (not (eqb (w i) (c i)))
      ∷ []);
  order = o;
}

points_judged : (s : UnstructuredPoints) → over_points s ≡ false → refusal (point_rules s) ≡ 0 → refusal (points_call_rules s) ≡ 0
points_judged s e h = rw e h

relisted_clear : {s t : Sets} → RelistedSets s t → over_sets s ≡ false → refusal (set_rules s) ≡ 0 → Clear t
relisted_clear (one_relisted {s = s} {t = t} h) e k = clear_one t (sym h.judged ∙ points_judged s e k)
relisted_clear (two_relisted {s = s} {s' = s'} {t = t} {t' = t'} h g) e k =
    let o = or-false (over_points s) (over_points s') e in
    let p = refusal_split (point_rules s) (point_rules s') tt k in
    clear_two t t' (sym h.judged ∙ points_judged s o.0 p.0) (sym g.judged ∙ points_judged s' o.1 p.1)

relisted_accept : (r : Run) (n : ℕ) {t : Sets} → RelistedSets r.sets t → T (accepted r n) → T (accepted (with_sets r t) n)
relisted_accept r n {t} h o = let p = passed r n o in accept_with r n t p (relisted_clear h (over_sets_law r p.limits) p.sets)

module _ (op : PairOperation) (m : op ≡ elementwise_multiply) where
  component_sym : (a b : ℤ) → component_z op a b ≡ component_z op b a
  component_sym a b = rw m (*ℤ_comm b a)

  value_sym : (k : Kind) (a b : ReadingZ) → value_z k op a b ≡ value_z k op b a
  value_sym comp0_mean a b = component_sym a.v0 b.v0
  value_sym component_sum_mean a b = λ i. component_sym a.v0 b.v0 i +ℤ (component_sym a.v1 b.v1 i +ℤ component_sym a.v2 b.v2 i)
  value_sym (component_sum_histogram h) a b = λ i. component_sym a.v0 b.v0 i +ℤ (component_sym a.v1 b.v1 i +ℤ component_sym a.v2 b.v2 i)

pair_sym : (r : Run) → r.op ≡ elementwise_multiply → (p : ℕ) (a b : PointZ) → pair_z r p a b ≡ pair_z r p b a
pair_sym r m p a b = λ i. in_bin_z
    (bin_of r.edges (of_int binary64 (square_flip b.c0 a.c0 i +ℤ (square_flip b.c1 a.c1 i +ℤ square_flip b.c2 a.c2 i)))) (state_at (bins r.edges) p)
    (term_z r.kind (number_at (bins r.edges) p) (value_sym r.op m r.kind a.rd b.rd i) (*ℤ_comm a.rd.w b.rd.w i))

unit_same : (c d : Cloud) → Permᴰ (listed c) (listed d) → unit c ≡ unit d
unit_same c d p =
    let v = largest_perm value_size p in
    let w = largest_perm (λ a. nat_abs a.rd.w) p in
    λ i. 6 * (max 1 (v i) * max 1 (v i)) * (max 1 (w i) * max 1 (w i))

-- ════ so what stands for a run counts like it
like : (n : ℕ) {r q : Run} → Replaced n r q → Like n r q
like n same = like_same n refl
like n (grid {r = r} {t = t} o h) =
    let e = listed_cloud h in
    record {
      accept = same_bool (accepted r n) (accepted (with_sets r t) n) (λ o. accept_with r n t (passed r n o) (listed_clear h)) (λ t. o);
      places = refl;
      survey = λ o s. record { reads = λ k. listed_reads h; near = λ k. rw e at (s.near (rw e k)); edge = s.edge };
      price = ap (λ (c : Cloud). unit c * pairs c) e;
      adds = λ p. ap (cloud_sum (pair_z r p)) e;
    }
like n (relisted {r = r} {t = t} m h) =
    let c = relisted_cloud h in
    record {
      accept = same_bool (accepted r n) (accepted (with_sets r t) n) (relisted_accept r n h) (relisted_accept (with_sets r t) n (relisted_back h));
      places = refl;
      survey = λ o s. record { reads = λ k. relisted_reads h (s.reads (rw c.count k)); near = λ k. all_perm Near c.order (s.near (rw c.count k)); edge = s.edge };
      price = (λ i. unit_same (cloud r.sets) (cloud t) c.order i * c.count i);
      adds = λ p. c.sum (pair_z r p) (pair_sym r m p);
    }

pub likes : (n : ℕ) {l m : List Run} → Each (Replaced n) l m → Alike n l m
likes n ends = none
likes n (also h t) = next (like n h) (likes n t)

pub orders : (n : ℕ) {l m : List Run} → Permᴰ l m → Alike n l m
orders n Permᴰ.nil = none
orders n (Permᴰ.cons e d) = next (like_same n e) (orders n d)
orders n (Permᴰ.swap e f) = turn (like_same n e) (like_same n f)
orders n (Permᴰ.trans d e) = then (orders n d) (orders n e)
