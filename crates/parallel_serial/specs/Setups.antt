-- What is built of an accepted run.
use Rattle.std.specs.Prelude.{◌≡◌}
use Rattle.definitions.specs.Bins.{bins}
use Rattle.reducer.specs.Readings.{edges_of}
use Rattle.reducer.specs.Consume.{made_edges, made}
use Rattle.parallel_serial.specs.declared.RunSpec.{RunSpec}
use Rattle.parallel_serial.specs.declared.Setup.{Setup}

pub record SetupOf (spec : RunSpec) (setup : Setup) : Type 0 where
  pub op : setup.op ≡ spec.op
  pub edges : setup.edges ≡ made_edges spec.edges
  pub reducer : setup.reducer ≡ made spec.kind
  pub states : setup.n_states ≡ bins (edges_of spec.edges)
