-- Lists put into a slice.
use Rattle.std.specs.Prelude.{List, ℕ}
use Rattle.std.proofs.lemmas.List.Edits.{sets}

-- s with the list l in it, from place k on
unfoldable pub stored : {A : Type 0} → ℕ → List A → List A → List A
stored k l s = sets s k l
