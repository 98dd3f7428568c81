-- One refusal's number after another's. Definitions only.
use Rattle.std.specs.Prelude.{cond, ℕ, eqb}

-- the first number, or the second where the first is none
abbrev pub or_else : ℕ → ℕ → ℕ
or_else a b = cond (eqb a 0) b a
