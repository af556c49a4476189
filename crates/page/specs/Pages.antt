-- 64 pages side by side in 16,384 bytes. Assumes nothing.
use Rattle.std.specs.Prelude.{ℕ, ◌+◌, ◌*◌, Bool, true, List, [], ◌∷◌}
use Rattle.field.specs.Test.{both}
use Rattle.field.specs.Bytes.{part, put}
use Rattle.page.specs.Page.{rows_of, formed}

-- page p of w, and w with page p replaced
unfoldable pub page : (p : ℕ) → List ℕ → List ℕ
page p w = part (256 * p) 256 w

unfoldable pub put_page : (p : ℕ) → (pg w : List ℕ) → List ℕ
put_page p pg w = put (256 * p) pg w

-- all pages of w, in order
unfoldable pub pages : List ℕ → List (List ℕ)
pages w = rows_of 256 64 w

-- these pages, the first being page p, are in form
unfoldable pub all_formed : (p : ℕ) → List (List ℕ) → Bool
all_formed p [] = true
all_formed p (pg ∷ pgs) = let rest = all_formed (p + 1) pgs in both (formed p pg) rest
