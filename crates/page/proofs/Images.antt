-- Pages by value: rows more in an image, and the bytes of an entry. Assumes nothing.
use Prim.Native.Nat.{ℕ, ◌+◌, ◌*◌, ◌≤◌, ◌<◌}
use native.Mathlib.Omega.{arith}
use mathlib.Core.Path.{◌≡◌, refl, sym, ap, ap₂, ◌∙◌}
use mathlib.Core.List.{List, [], ◌∷◌, ◌++◌}
use lib.ListN.{length, take, drop, length-append, length-drop}
use lib.Seq.{take-length}
use Rattle.field.specs.Bytes.{put, bytes2, bytes4}
use Rattle.field.proofs.Part.{length_part}
use Rattle.page.specs.Page.{rows_of, joined, entry, letter, count, number, spare, rows, made}
use Rattle.page.specs.Each.{Each, Long}
use Rattle.page.proofs.Rows.{length-rows_of, length-rows, joined-rows_of, length-joined, long-rows_of}
use Rattle.page.proofs.Written.{topped, body, made-topped, topped-put, topped-count, body-append}
use Rattle.page.proofs.Made.{letter-made, number-made, spare_made, rows_made}

-- a page that is made is made of what stands in it, so that a contract may name its parts
module _ (sz c n : ℕ) (sp : List ℕ) (rs : List (List ℕ)) (eight : length sp ≡ 8) (small : n < 4294967296) (few : length rs < 65536) (long : Each (Long sz) rs) where
  pub made_more : (image : List ℕ) (xs : List (List ℕ)) → image ≡ made c n sp rs
      → made (letter image) (number image) (spare image) (rows sz image ++ xs) ≡ made c n sp (rs ++ xs)
  made_more image xs e =
      rw (e, letter-made c n sp rs, number-made c n sp rs small, spare_made c n sp rs eight, rows_made c n sp rs eight sz long few)

  pub made_again : (image : List ℕ) → image ≡ made c n sp rs → image ≡ made (letter image) (number image) (spare image) (rows sz image)
  made_again image e =
      e ∙ sym (rw (e, letter-made c n sp rs, number-made c n sp rs small, spare_made c n sp rs eight, rows_made c n sp rs eight sz long few))

long-body : (sz : ℕ) (image : List ℕ) → length image ≡ 256 → sz * count image ≤ 240 → sz * count image ≤ length (drop 16 image)
long-body sz image whole room = rw (length-drop 16 image, whole) (omega arith)

-- k rows written behind those of an image, and counted
pub more_rows : (sz k : ℕ) (image rs : List ℕ) → length image ≡ 256
    → image ≡ made (letter image) (number image) (spare image) (rows sz image)
    → length rs ≡ sz * k → sz * count image ≤ 240
    → put (16 + sz * count image) rs (put 2 (bytes2 (count image + k)) image)
    ≡ made (letter image) (number image) (spare image) (rows sz image ++ rows_of sz k rs)
more_rows sz k image rs whole e long room =
    let c : ℕ = letter image in
    let n : ℕ = number image in
    let sp : List ℕ = spare image in
    let es : List (List ℕ) = rows sz image in
    let v : ℕ = count image + k in
    let ls : length sp ≡ 8 = unfold spare in length_part 8 8 image (omega arith) in
    let le : length es ≡ count image = length-rows sz image in
    let each : Each (Long sz) es = unfold rows in long-rows_of sz (count image) (drop 16 image) (long-body sz image whole room) in
    let lj : length (joined es) ≡ sz * count image = length-joined sz es each ∙ ap (λ (x : ℕ). sz * x) le in
    let jk : joined (rows_of sz k rs) ≡ rs = joined-rows_of sz k rs ∙ ap (λ (x : ℕ). take x rs) (sym long) ∙ take-length rs in
    let lk : v ≡ length (es ++ rows_of sz k rs) =
    sym (length-append es (rows_of sz k rs) ∙ ap₂ (λ (x y : ℕ). x + y) le (length-rows_of sz k rs)) in
    let t : image ≡ topped c (length es) n (sp ++ body es) = e ∙ sym (made-topped c n sp es) in
    ap (λ (x : List ℕ). put (16 + sz * count image) rs (put 2 (bytes2 v) x)) t
    ∙ ap (put (16 + sz * count image) rs) (topped-count c (length es) n v (sp ++ body es))
    ∙ topped-put c v n (sz * count image) sp rs (body es) ls
    ∙ ap₂ (λ (x : ℕ) (l : List ℕ). topped c x n (sp ++ l)) lk
    (ap (λ (x : List ℕ). put (sz * count image) x (body es)) (sym jk) ∙ body-append es (rows_of sz k rs) (sz * count image) lj)
    ∙ made-topped c n sp (es ++ rows_of sz k rs)

-- the bytes of an entry, written into its mark and six zeros
pub entry-is : (key p : ℕ) → put 6 (bytes2 p) (put 2 (bytes4 key) (101 ∷ 110 ∷ 0 ∷ 0 ∷ 0 ∷ 0 ∷ 0 ∷ 0 ∷ [])) ≡ entry key p
unfolding put entry bytes2 bytes4
entry-is key p = refl

pub one-row : (key p : ℕ) (e : List ℕ) → e ≡ entry key p → rows_of 8 1 e ≡ entry key p ∷ []
unfolding rows_of entry bytes2 bytes4
one-row key p e q = rw q
