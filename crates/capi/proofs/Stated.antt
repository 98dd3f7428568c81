-- The run that a flat call states is the run of what its numbers stand for.
use mathlib.Core.Path.{◌≡◌, ap, ◌∙◌}
use mathlib.Core.List.{List}
use Prim.Native.Nat.{ℕ}
use Rattle.std.specs.Prelude.{ℤ}
use mir.Syntax.{w64}
use mir.Val.{SFits, to_z, of_z}
use Rattle.std.proofs.Math.Facts.{to_z-of_z}
use Rattle.capi.specs.Entries.{block_from}
use lib.Ieee.{Float}
use Rattle.definitions.specs.Bins as definitions
use Rattle.definitions.specs.Reducer as kinds
use Rattle.definitions.specs.Run.{Sets, Run}
use Rattle.definitions.specs.Rules.{refusal, run_rules, step}
use Rattle.capi_words.specs.Words.{kind_from}
use Rattle.reducer.specs.declared.PairOperation.{PairOperation}
use Rattle.reducer.specs.Readings.{Edges, Kind, op_of, edges_of, kind_of}
use Rattle.parallel_serial.specs.declared.Shape.{Shape}
use Rattle.parallel_serial.specs.Drive.{run_of}

abbrev run_by : Sets → definitions.Edges → kinds.Kind → PairOperation → Shape → Run
run_by sets edges kind op shape =
    record {
      sets = sets;
      op = op_of op;
      kind = kind;
      edges = edges;
      states = shape.pack.n_states;
      size = shape.pack.state_size;
      members = shape.members;
      teams = shape.teams;
    }

-- a global offset that was written and read back
pub read_back : {nz ny nx sz sy sx : ℕ} {gz gy gx : ℤ} {c0 c1 c2 weights : List Float} → SFits w64 gz → SFits w64 gy → SFits w64 gx
    → block_from nz ny nx sz sy sx (to_z w64 (of_z w64 gz)) (to_z w64 (of_z w64 gy)) (to_z w64 (of_z w64 gx)) c0 c1 c2 weights ≡ block_from nz ny nx sz sy sx gz gy gx c0 c1 c2 weights
read_back {nz = nz} {ny = ny} {nx = nx} {sz = sz} {sy = sy} {sx = sx} {c0 = c0} {c1 = c1} {c2 = c2} {weights = weights} a b d =
    λ i. block_from nz ny nx sz sy sx (to_z-of_z a i) (to_z-of_z b i) (to_z-of_z d i) c0 c1 c2 weights

-- x is the number that is handed to C, n the answer's; q is the pack after
module _ (e : Edges) (k : Kind) (form : ℕ) {s t : Sets} {o p : PairOperation} {shape h : Shape} {v es : definitions.Edges} where
  stated : {w : definitions.Edges} → s ≡ t → edges_of e ≡ es → v ≡ w → kind_of k ≡ kind_from form v → o ≡ p → shape ≡ h
      → run_of s (record { edges = e; kind = k; op = o; shape = shape }) ≡ run_by t es (kind_from form w) p h
  unfolding run_of
  stated a b c d f g = λ i. run_by (a i) (b i) ((d ∙ ap (kind_from form) c) i) (f i) (g i)

  pub answered : (len : ℕ) (pack : List Float) {x n : ℕ} {q : List Float} {w : definitions.Edges} → x ≡ n → n ≡ refusal (run_rules (run_of s (record { edges = e; kind = k; op = o; shape = shape })) len)
      → q ≡ step (run_of s (record { edges = e; kind = k; op = o; shape = shape })) pack
      → s ≡ t → edges_of e ≡ es → v ≡ w → kind_of k ≡ kind_from form v → o ≡ p → shape ≡ h
      → (x ≡ refusal (run_rules (run_by t es (kind_from form w) p h) len)) × (q ≡ step (run_by t es (kind_from form w) p h) pack)
  answered len pack y r u a b c d f g = let run = stated a b c d f g in (y ∙ r ∙ ap (λ z. refusal (run_rules z len)) run, u ∙ ap (λ z. step z pack) run)
