use mathlib.Core.Path.{ap, ◌∙◌}
use Prim.Native.Nat.{ℕ, ◌*◌}
use lib.ListN.{take}
use Rattle.parallel_serial.specs.Drive.{zero_pack, added_scratch}
use Rattle.parallel_serial.proofs.Scratch.{zeros_are}
use Rattle.parallel_serial.proofs.drive_reduce.Goals as goal

pub returns : goal.returns
returns g c = let x = c.args in
    let n = x.setup.now.n_states in
    let zeros = ap (take (n * c.state_size.result)) zeros_are ∙ ap (λ (k : ℕ). take (n * k) zero_pack) c.state_size.ensures in
    c.add_scratch.ensures ∙ ap (added_scratch x.pack.now) (c.add_contributions.ensures ∙ ap (g.R.ReductionSpec.contributed x.run.now x.setup.now) zeros)
