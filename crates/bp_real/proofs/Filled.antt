-- What a buffer holds after another read into the rest of it.
use Rattle.std.proofs.Common.{◌≡◌, ◌∙◌, sym, ap, ℕ, ◌+◌, ◌≤◌, List, ◌++◌, length, take, append_assoc, Option, Some, None}
use Rattle.std.proofs.lemmas.List.{length-take-le, take-append-le}
use Rattle.std.proofs.Math.Seq.{take-append-add}
use Rattle.std.specs.Io.KnownBytes.{Consumes}
use borrow.Rule.Slice.PartMut.{put_mid}

-- the front of a buffer of which a part was written
pub take_filled : (a k : ℕ) (xs ys : List ℕ) (n : ℕ) → a ≤ length xs → n ≤ length ys → take (a + n) (put_mid a k xs ys) ≡ take a xs ++ take n ys
take_filled a k xs ys n fits few =
    ap (λ (m : ℕ). take (m + n) (put_mid a k xs ys)) (sym (length-take-le a xs fits))
    ∙ take-append-add (take a xs) _ n
    ∙ ap (λ (zs : List ℕ). take a xs ++ zs) (take-append-le n ys _ few)

-- known bytes are consumed in two parts
pub consumed_more : (old mid new : Option (List ℕ)) (xs ys : List ℕ) → Consumes old mid xs → Consumes mid new ys → Consumes old new (xs ++ ys)
consumed_more None mid new xs ys a b = tt
consumed_more (Some os) None new xs ys a b = absurd a
consumed_more (Some os) (Some ms) None xs ys a b = absurd b
consumed_more (Some os) (Some ms) (Some ns) xs ys a b = a ∙ ap (λ (zs : List ℕ). xs ++ zs) b ∙ sym (append_assoc xs ys ns)
