-- What a read answers at the end of what is reported.
use Rattle.std.proofs.Common.{◌≡◌, ◌<◌, refl, ℕ, List, length, Option, None, Some, Result, Ok, Err, IfOk}
use Rattle.std.specs.declared.io.Error.{Error}
use Rattle.jup_http.specs.Prelude.{Ending}
use Rattle.jup_http.specs.declared.ending.Ending.TheVariants.{Closed, Broken}
use Rattle.jup_http.specs.Readers.{IsReadAtEnd, IsUnbroken}

pub end_gives_none : (e : Option Ending) (read : Result ℕ Error) → IsReadAtEnd e read → IfOk read (λ n. n ≡ 0)
end_gives_none None read is = rw is refl
end_gives_none (Some (Closed code)) read is = rw is refl
end_gives_none (Some (Broken b)) (Ok n) is = absurd is
end_gives_none (Some (Broken b)) (Err error) is = tt

pub end_is_unbroken : (e : Option Ending) (read : Result ℕ Error) (buf : List ℕ) → IsReadAtEnd e read → IfOk read (λ n. n ≡ 0 → 0 < length buf → IsUnbroken e)
end_is_unbroken None (Ok n) buf is = λ _ _. tt
end_is_unbroken None (Err error) buf is = tt
end_is_unbroken (Some (Closed code)) (Ok n) buf is = λ _ _. tt
end_is_unbroken (Some (Closed code)) (Err error) buf is = tt
end_is_unbroken (Some (Broken b)) (Ok n) buf is = absurd is
end_is_unbroken (Some (Broken b)) (Err error) buf is = tt

pub if_at_end : (read : Result ℕ Error) (buf : List ℕ) (P : Type 0) → P → IfOk read (λ n. n ≡ 0 → 0 < length buf → P)
if_at_end (Ok n) buf P p = λ _ _. p
if_at_end (Err error) buf P p = tt
