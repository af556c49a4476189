-- A page drawn in three parts: its header, a run of rows of a lent page, a new row. Assumes nothing.
use Prim.Native.Nat.{ℕ, ◌+◌, ◌-◌, ◌*◌, ◌≤◌, ◌<◌}
use native.Mathlib.Nat.{add-zero, mul-zero, mul-add, mul-le-mul_left}
use native.Mathlib.Numerals.{add-one}
use native.Mathlib.Omega.{arith}
use mathlib.Core.Path.{◌≡◌, sym, ap, ◌∙◌}
use mathlib.Core.Bool.{Bool, true, false, not}
use mathlib.Core.List.{List, [], ◌∷◌, ◌++◌, append-nil, append_assoc}
use lib.ListN.{length, take, drop, get_or, set, length-append, length-drop, take-append-drop}
use lib.Seq.{ext_get_or, take_all, length-take-le, get_or-take, get_or-drop}
use borrow.Author.Tests.{not-true, not-false}
use Rattle.field.specs.Test.{pick}
use Rattle.field.proofs.Test.{pick-either}
use Rattle.field.specs.Bytes.{part, put, zeroes, bytes2, bytes4}
use Rattle.field.proofs.Part.{length_part, part-part, put_next, sets-put, lent-part}
use Rattle.field.proofs.Zero.{length-zeroes}
use Rattle.page.specs.Page.{rows_of, joined, entry, spare, rows, made}
use Rattle.page.specs.Pages.{page, pages}
use Rattle.page.specs.Each.{Each, nil, cons, Long}
use Rattle.page.proofs.Rows.{each_append, length-rows_of, length-rows, long-rows_of, joined-rows_of, length-joined, get_or-rows_of, get_or_rows}
use Rattle.page.proofs.Written.{topped, body, made-topped, topped-put, topped-count, body-append}
use Rattle.page.proofs.Pages.{get_or-pages}
use Rattle.field.specs.declared.PageNo.{PageNo}
use Rattle.saving.specs.Save.{drawn}
use Rattle.saving.specs.Draft.{run, inserted, spare_of, sheet_of, Run, Suits, Ready}
use Rattle.saving.specs.declared.draft.Draft.{Draft}
use Rattle.saving.specs.declared.draft.More.{More}
use Rattle.saving.specs.declared.draft.More.TheVariants.{Nothing, Record, Entry}

-- ---- the header

pub stamped : (c n : ℕ) (image : List ℕ) → image ≡ made c 0 (zeroes 8) [] → put 4 (bytes4 n) image ≡ made c n (zeroes 8) []
unfolding put made bytes2 bytes4 zeroes joined
stamped c n image e = rw e

spared : (c n : ℕ) (sp : List ℕ) → length sp ≡ 8 → put 8 sp (made c n (zeroes 8) []) ≡ made c n sp []
unfolding put made bytes2 bytes4 zeroes joined
spared c n sp eight = rw eight

module _ (p : ℕ) (w : List ℕ) (whole : length w ≡ 16384) (small : p < 64) where
  spare-page : spare (get_or (pages w) p []) ≡ part (256 * p + 8) 8 w
  unfolding spare page
  spare-page = rw (get_or-pages p w small) (part-part 8 8 (256 * p) 256 w (omega arith) (omega arith))

  pub spare-eight : (kept : Bool) → length (spare_of kept p (pages w)) ≡ 8
  unfolding spare_of
  spare-eight kept =
      pick-either (λ (l : List ℕ). length l ≡ 8) kept _ _ (rw spare-page (length_part (256 * p + 8) 8 w (omega arith))) (length-zeroes 8)

  module _ (c n : ℕ) (blank image : List ℕ) (kept : Bool) (eb : blank ≡ made c 0 (zeroes 8) []) (e : image ≡ put 4 (bytes4 n) blank) where
    stamp-is : image ≡ made c n (zeroes 8) []
    stamp-is = e ∙ stamped c n blank eb

    pub begun-clear! : not kept ≡ true → image ≡ made c n (spare_of kept p (pages w)) []
    unfolding spare_of pick
    begun-clear! h = rw (not-true kept h) stamp-is

    pub begun-kept! : not kept ≡ false → (x : List ℕ) → x ≡ put 8 (take (256 * p + 8 + 8 - (256 * p + 8)) (drop (256 * p + 8) w)) image
        → x ≡ made c n (spare_of kept p (pages w)) []
    unfolding spare_of pick
    begun-kept! h x f =
        f ∙ rw (not-false kept h, stamp-is, lent-part (256 * p + 8) 8 w, spare-page)
        (spared c n (part (256 * p + 8) 8 w) (length_part (256 * p + 8) 8 w (omega arith)))

-- ---- a run of rows of a page, where it is lent

module _ (sz p i k : ℕ) (w : List ℕ) (whole : length w ≡ 16384) (small : p < 64) (in-page : Run sz w p i k) where
  abbrev at : ℕ
  at = 256 * p + (16 + sz * i)

  ends : sz * (i + k) ≡ sz * i + sz * k
  ends = mul-add sz i k

  pub run_ends : at + sz * k ≤ length w
  run_ends = omega (arith, ends, in-page.fits)

  length_run : length (run sz p i k (pages w)) ≡ k
  unfolding run
  length_run = length-take-le k _ (rw (get_or-pages p w small, length-drop i (rows sz (page p w)), length-rows sz (page p w)) (omega (arith, in-page.there)))

  row_is : (m : ℕ) → m < k → get_or (rows_of sz k (part at (sz * k) w)) m [] ≡ get_or (run sz p i k (pages w)) m []
  unfolding run page
  row_is m h =
      let last : sz * m + sz ≤ sz * k = omega (arith, mul-add sz m 1, mul-le-mul_left sz (let g : m + 1 ≤ k = omega arith in g)) in
      let sum : sz * (i + m) ≡ sz * i + sz * m = mul-add sz i m in
      let place : at + sz * m ≡ 256 * p + (16 + sz * (i + m)) = omega arith in
      get_or-rows_of sz k m (part at (sz * k) w) h
      ∙ part-part (sz * m) sz at (sz * k) w last run_ends
      ∙ ap (λ (x : ℕ). part x sz w) place
      ∙ sym (part-part (16 + sz * (i + m)) sz (256 * p) 256 w (omega (arith, ends, in-page.fits)) (omega arith))
      ∙ sym (get_or-take k (drop i (rows sz (get_or (pages w) p []))) m [] h
      ∙ get_or-drop i (rows sz (get_or (pages w) p [])) m []
      ∙ rw (get_or-pages p w small) (get_or_rows sz (i + m) (page p w) (omega (arith, in-page.there))))

  run_is : rows_of sz k (part at (sz * k) w) ≡ run sz p i k (pages w)
  run_is =
      ext_get_or [] _ _ (length-rows_of sz k _ ∙ sym length_run)
      (λ m h. row_is m (omega (arith, length-rows_of sz k (part at (sz * k) w))))

  -- its bytes are those that are lent
  pub run_lent : take (at + sz * k - at) (drop at w) ≡ joined (run sz p i k (pages w))
  run_lent =
      rw (lent-part at (sz * k) w, ← run_is, joined-rows_of sz k (part at (sz * k) w))
      (sym (take_all (sz * k) (part at (sz * k) w) (omega (arith, length_part at (sz * k) w run_ends))))

  run_long : Each (Long sz) (run sz p i k (pages w))
  run_long = rw (← run_is) (long-rows_of sz k (part at (sz * k) w) (omega (arith, length_part at (sz * k) w run_ends)))

-- ---- the new row

inserted-long : (sz : ℕ) (r : List ℕ) (m : More) → length r ≡ 16 → Suits sz m → Each (Long sz) (inserted r m)
unfolding inserted entry bytes2 bytes4
inserted-long sz r Nothing h s = nil
inserted-long sz r Record h s = cons (h ∙ sym s) nil
inserted-long sz r (Entry key p) h s = cons (sym s) nil

inserted-few : (r : List ℕ) (m : More) → length (inserted r m) ≤ 1
unfolding inserted
inserted-few r Nothing = omega arith
inserted-few r Record = omega arith
inserted-few r (Entry key p) = omega arith

-- the bytes of an entry, one after the other
pub entry-put : (at key p : ℕ) (l : List ℕ) → at + 8 ≤ length l
    → put (at + 6) (bytes2 p) (put (at + 2) (bytes4 key) (set (set l at 101) (at + 1) 110)) ≡ put at (entry key p) l
unfolding entry bytes2 bytes4
entry-put at key p l h =
    let mark : List ℕ = 101 ∷ 110 ∷ [] in
    let m : set (set l at 101) (at + 1) 110 ≡ put at mark l = rw (add-one at) (sets-put mark l at (omega arith)) in
    rw (m, put_next at mark (bytes4 key) l (omega arith)) (put_next at (mark ++ bytes4 key) (bytes2 p) l (omega arith))

module _ (r image : List ℕ) (at : ℕ) (m : More) where
  pub no-row! : m ≡ Nothing → image ≡ put at (joined (inserted r m)) image
  unfolding inserted joined put
  no-row! h = rw (h, add-zero at) (sym (take-append-drop at image))

  pub record-row! : (x : List ℕ) → m ≡ Record → x ≡ put at r image → x ≡ put at (joined (inserted r m)) image
  unfolding inserted joined
  record-row! x h e = e ∙ rw (h, append-nil r)

  pub entry-row! : (x : List ℕ) (key : ℕ) (p : PageNo) → m ≡ Entry key p → x ≡ put at (entry key p.0) image → x ≡ put at (joined (inserted r m)) image
  unfolding inserted joined
  entry-row! x key p h e = e ∙ rw (h, append-nil (entry key p.0))

-- how long it is, and how many
module _ (r : List ℕ) (m : More) where
  pub record-long : m ≡ Record → length (joined (inserted r m)) ≡ length r
  unfolding inserted joined
  record-long h = rw (h, append-nil r)

  pub entry-long : (key : ℕ) (p : PageNo) → m ≡ Entry key p → length (joined (inserted r m)) ≡ 8
  unfolding inserted joined entry bytes2 bytes4
  entry-long key p h = rw h

  pub none-many : m ≡ Nothing → 0 ≡ length (inserted r m)
  unfolding inserted
  none-many h = rw h

  pub record-many : m ≡ Record → 1 ≡ length (inserted r m)
  unfolding inserted
  record-many h = rw h

  pub entry-many : (key : ℕ) (p : PageNo) → m ≡ Entry key p → 1 ≡ length (inserted r m)
  unfolding inserted
  entry-many key p h = rw h

-- ---- one part after the other

-- rows written behind the rows of an image, whatever count it bears
behind-rows : (sz c v n : ℕ) (sp : List ℕ) (rs xs : List (List ℕ)) → length sp ≡ 8 → Each (Long sz) rs
    → put (16 + sz * length rs) (joined xs) (topped c v n (sp ++ body rs)) ≡ topped c v n (sp ++ body (rs ++ xs))
behind-rows sz c v n sp rs xs eight long =
    topped-put c v n (sz * length rs) sp (joined xs) (body rs) eight
    ∙ ap (λ (l : List ℕ). topped c v n (sp ++ l)) (body-append rs xs (sz * length rs) (length-joined sz rs long))

-- ---- a draft

module _ (w r : List ℕ) (d : Draft) (whole : length w ≡ 16384) (long : length r ≡ 16) (ok : Ready w d) where
  abbrev sp : List ℕ
  sp = spare_of d.kept d.page.0 (pages w)

  abbrev front : List (List ℕ)
  front = run d.size d.source.0 d.from d.many (pages w)

  abbrev new : List (List ℕ)
  new = inserted r d.more

  abbrev back : List (List ℕ)
  back = run d.size d.source.0 d.next d.rest (pages w)

  eight : length sp ≡ 8
  eight = spare-eight d.page.0 w whole ok.inside d.kept

  front_long : Each (Long d.size) front
  front_long = run_long d.size d.source.0 d.from d.many w whole ok.source ok.front

  front-many : length front ≡ d.many
  front-many = length_run d.size d.source.0 d.from d.many w whole ok.source ok.front

  back-many : length back ≡ d.rest
  back-many = length_run d.size d.source.0 d.next d.rest w whole ok.source ok.back

  new-long : Each (Long d.size) new
  new-long = inserted-long d.size r d.more long ok.suits

  -- so many rows fit
  rows_fit : (k : ℕ) → k ≤ d.many + 1 + d.rest → d.size * k ≤ 240
  rows_fit k h = omega (arith, mul-le-mul_left d.size h, ok.room)

  pub new-fits : 16 + d.size * d.many + length (joined new) ≤ 256
  new-fits =
      omega (
        arith,
        length-joined d.size new new-long,
        mul-add d.size d.many (length new),
        rows_fit (d.many + length new) (omega (arith, inserted-few r d.more)),
      )

  pub back_fits : (m : ℕ) → m ≡ length new → 16 + d.size * d.many + d.size * m + d.size * d.rest ≤ 256
  back_fits m e =
      omega (
        arith,
        mul-add d.size d.many m,
        mul-add d.size (d.many + m) d.rest,
        rows_fit (d.many + m + d.rest) (omega (arith, inserted-few r d.more)),
      )

  pub few-rows : (m : ℕ) → m ≡ length new → d.many + m + d.rest ≤ 30
  few-rows m e = omega (arith, inserted-few r d.more, ok.few)

  pub all-drawn : (n m : ℕ) (a b c e x : List ℕ) → m ≡ length new → a ≡ made d.sign n sp [] → b ≡ put 16 (joined front) a
      → c ≡ put (16 + d.size * d.many) (joined new) b → e ≡ put (16 + d.size * d.many + d.size * m) (joined back) c
      → x ≡ put 2 (bytes2 (d.many + m + d.rest)) e → x ≡ drawn n (sheet_of (pages w) r d)
  unfolding drawn sheet_of
  all-drawn n m a b c e x em ea eb ec ee ex =
      let s : ℕ = d.size in
      let h : ℕ = d.sign in
      let first : 16 ≡ 16 + s * 0 = omega (arith, mul-zero s) in
      let next : 16 + s * d.many ≡ 16 + s * length front = rw front-many in
      let two : length (front ++ new) ≡ d.many + m = length-append front new ∙ rw (front-many, ← em) in
      let last : 16 + s * d.many + s * m ≡ 16 + s * length (front ++ new) = rw two (omega (arith, mul-add s d.many m)) in
      let all : d.many + m + d.rest ≡ length ((front ++ new) ++ back) = sym (length-append (front ++ new) back ∙ rw (two, back-many)) in
      let ta : a ≡ topped h 0 n (sp ++ body []) = ea ∙ sym (made-topped h n sp []) in
      let tb : b ≡ topped h 0 n (sp ++ body front) = eb ∙ rw (ta, first) (behind-rows s h 0 n sp [] front eight nil) in
      let tc : c ≡ topped h 0 n (sp ++ body (front ++ new)) = ec ∙ rw (tb, next) (behind-rows s h 0 n sp front new eight front_long) in
      let te : e ≡ topped h 0 n (sp ++ body ((front ++ new) ++ back)) =
      ee ∙ rw (tc, last) (behind-rows s h 0 n sp (front ++ new) back eight (each_append front_long new-long)) in
      ex ∙ rw (te, topped-count h 0 n (d.many + m + d.rest) (sp ++ body ((front ++ new) ++ back)), all)
      (made-topped h n sp ((front ++ new) ++ back) ∙ rw (append_assoc front new back))
