-- What is read of a file.
use Rattle.std.specs.Prelude.{◌≡◌, ⊤, List, ℕ, take, length, IfSome}
use Rattle.std.specs.Prelude.{Option, None, Some}

-- the bytes of a file of which n were read into a buffer, if it could be read
abbrev pub bytes_read : Option ℕ → List ℕ → Option (List ℕ)
bytes_read None buffer = None
bytes_read (Some n) buffer = Some (take n buffer)

-- where a reader's bytes are known, the buffer's first n are all of them, or as many as it has room for
abbrev pub IsFilledFrom : Option (List ℕ) → ℕ → List ℕ → Type 0
IsFilledFrom known n buffer = IfSome known (λ bytes. take n buffer ≡ take (length buffer) bytes)

-- where bytes are answered there is an open file, and they are its own, or as many of them as there is room for, where those are known
abbrev pub IsOfOpened : {F : Type 0} → (F → Option (List ℕ)) → ℕ → Option (List ℕ) → Type 0
IsOfOpened known room None = ⊤
IsOfOpened {F} known room (Some answer) = (file : F) × IfSome (known file) (λ bytes. answer ≡ take room bytes)
