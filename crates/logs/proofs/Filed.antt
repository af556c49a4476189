-- Images of ascending pages, each in form, stay so with one more that may follow them. Assumes nothing.
use Prim.Native.Nat.{ℕ, ◌+◌}
use mathlib.Core.Path.{◌≡◌, refl, sym, ap, ◌∙◌}
use mathlib.Core.Bool.{true}
use mathlib.Core.List.{List, [], ◌∷◌, ◌++◌, append_assoc}
use borrow.Author.Tests.{leb-true}
use lib.ListN.{length}
use Rattle.field.specs.Bytes.{Bytes}
use Rattle.field.proofs.Test.{all_head, all_tail}
use Rattle.logs.specs.Record.{Image, Rec, LB, LO, LI, LM, LG, LE}
use Rattle.logs.specs.Log.{images_of, past, follows}
use Rattle.logs.specs.Valid.{Lies, Filed}

filed-more : (p : ℕ) (is : List Image) (i : Image) → Filed p is → Lies (past p is) i → Filed p (is ++ i ∷ [])
unfolding past
filed-more p [] i f s = (s, tt)
filed-more p (j ∷ is) i f s = (f.0, filed-more (j.at + 1) is i f.1 s)

-- images behind others
pub images-more : (did : List Rec) (more : List Image) → images_of did more ≡ images_of did [] ++ more
unfolding images_of
images-more [] more = refl
images-more (LB g ∷ did) more = images-more did more
images-more (LO org dest rs ∷ did) more = images-more did more
images-more (LI org dest back rs ∷ did) more = images-more did more
images-more (LM base old new key ∷ did) more = images-more did more
images-more (LG i ∷ did) more =
    images-more did (i ∷ more) ∙ sym (append_assoc (images_of did []) (i ∷ []) more) ∙ ap (λ (l : List Image). l ++ more) (sym (images-more did (i ∷ [])))
images-more (LE unit images ∷ did) more = images-more did more

follows-lies : (is : List Image) (i : Image) → follows is i ≡ true → length i.bytes ≡ 256 → Bytes i.bytes → Lies (past 0 is) i
unfolding follows
follows-lies is i e l b =
    let t = all_tail _ _ e in
    record { low = leb-true _ _ (all_head _ _ e); high = leb-true _ _ (all_head _ _ t); form = all_head _ _ (all_tail _ _ t); long = l; bytes = b }

-- the images of a unit after an LG
pub image-filed : (did : List Rec) (i : Image) → follows (images_of did []) i ≡ true → length i.bytes ≡ 256 → Bytes i.bytes → Filed 0 (images_of did [])
    → Filed 0 (images_of did (i ∷ []))
image-filed did i f l b t = rw (images-more did (i ∷ [])) (filed-more 0 (images_of did []) i t (follows-lies (images_of did []) i f l b))
