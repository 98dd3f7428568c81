-- The tests of a NaN and of a finite number.
use Rattle.std.proofs.Common.{◌≡◌, true, sym, refl, true≢false}
use Rattle.std.specs.Float.{float_is_finite}
use lib.Ieee.{Float, nan, inf, fin, is_nan}
use lib.Ieee.Scale.{finite}

pub nan_is : (x : Float) → is_nan x ≡ true → x ≡ nan
unfolding is_nan
nan_is nan h = refl
nan_is (inf s) h = absurd (true≢false (sym h))
nan_is (fin s m e) h = absurd (true≢false (sym h))

-- the library's word for it
pub finite_same : (x : Float) → finite x ≡ float_is_finite x
unfolding float_is_finite
finite_same nan = refl
finite_same (inf s) = refl
finite_same (fin s m e) = refl
