-- A put or delete whose pages are worked out can be finished in the sense of the generic half: the LGs that it lacks one after the other, none of
-- which changes a page, then its LE. Assumes nothing.
use Prim.Native.Nat.{ℕ, ◌+◌, ◌-◌, ◌≤◌}
use native.Mathlib.Omega.{arith}
use mathlib.Core.Path.{◌≡◌, refl, sym, ap, ◌∙◌, subst}
use mathlib.Core.Bool.{true}
use mathlib.Core.List.{List, [], ◌∷◌, ◌++◌, append-nil, append_assoc}
use mathlib.Core.Option.{Option, some, none}
use lib.ListN.{length, length-append, length-map}
use borrow.Author.Tests.{le-leb}
use Rattle.field.specs.Test.{bind}
use Rattle.field.specs.Bytes.{most4}
use Rattle.field.proofs.Test.{both-intro, pick_true, when_true}
use Rattle.page.specs.Pages.{pages}
use Rattle.logs.specs.Record.{Check, Begin, saves, Image, Rec, LG, LE, size, sizes}
use Rattle.logs.specs.Log.{Open, State, images_of, noting, opened_by}
use Rattle.logs.specs.Valid.{Logs, Bears, Follows, logs, Fits}
use Rattle.logs.proofs.Filed.{images-more}
use Rattle.logs.proofs.State.{number-at_end}
use Rattle.tree.specs.Tree.{all_records}
use Rattle.unit.specs.Next.{targets, apply}
use Rattle.unit.proofs.Pagewise.{apply-stays}
use Rattle.saving.specs.Save.{Sheet}
use Rattle.saving.specs.Rest.{image_of, Rest, lacks, logging, rest_of}
use Rattle.saving.proofs.Resumes.{length-logging}
use Rattle.saved.specs.Saved.{laid, Saves}
use Rattle.saved.specs.Units.{Lower, Resumes, Enters}
use Rattle.saved.proofs.Ended.{save-ends}
use Rattle.store.specs.Calls.{log_length, lacked_by}
use Rattle.replay.specs.Laws.{Able, closed, more}
use Rattle.promise.specs.Promise.{saved_by}
use Rattle.promise.specs.Parts.{log_of, state_of, first_of, left_of, next_in, store, asked}
use Rattle.promise.proofs.Image.{Stored, at-grown, opened-grown, stored-grown}
use Rattle.promise.proofs.Saved.{saved-more}
use Rattle.promise.proofs.Forward.{left-none, left-save}

-- the first record lacked, by the tests of `conclude`
next-of : (o : Open) (s : State) (w : List ℕ) (r : Rec) (rs : List Rec) → saves o.start ≡ true → s.opened ≡ some o → lacked_by o s w ≡ lacks (r ∷ rs)
    → s.at + sizes (r ∷ rs) ≤ log_length → s.number + length (r ∷ rs) ≤ most4 → next_in s.opened s w ≡ some r
unfolding next_in first_of
next-of o s w r rs v e q f n =
    ap (λ (y : Option Open). next_in y s w) e
    ∙ pick_true _ _ _ v
    ∙ ap (λ (y : Rest). first_of y s) q
    ∙ when_true _ r (both-intro _ _ (le-leb _ log_length f) (le-leb _ most4 n))

-- the open put or delete: it begins with g, whose number is n, and these are its images so far
pub record Opened (g : Begin) (s : State) (n : ℕ) (is : List Image) : Type 0 where
  pub unit : Open
  pub opened : s.opened ≡ some unit
  pub start : unit.start ≡ g
  pub images : images_of unit.did [] ≡ is
  pub many : length unit.did ≡ length is
  pub number : s.number ≡ n + length is

open-noted : (g : Begin) (c : Check) (l : List Rec) (n : ℕ) (is : List Image) (k : Image) → Opened g (state_of c l) n is
    → Opened g (state_of c (l ++ (LG k ∷ []))) n (is ++ k ∷ [])
unfolding opened_by bind noting images_of
open-noted g c l n is k o =
    let a : length (is ++ k ∷ []) ≡ length is + 1 = length-append is (k ∷ []) in
    record {
      unit = noting (LG k) o.unit;
      opened = opened-grown c l (LG k) ∙ ap (opened_by (LG k)) o.opened;
      start = o.start;
      images = images-more o.unit.did (k ∷ []) ∙ ap (λ (js : List Image). js ++ k ∷ []) o.images;
      many = omega (arith, a, o.many);
      number = omega (arith, a, o.number, number-at_end (log_of c (l ++ (LG k ∷ []))), number-at_end (log_of c l), length-append l (LG k ∷ []));
    }

-- g begins at the number n over the pages w, and changes the pages xs; rs are the records then
module _ (origin : List ℕ) (c : Check) (w : List ℕ) (g : Begin) (n : ℕ) (xs : List Sheet) (rs : List (List ℕ)) (v : saves g ≡ true) (res : Resumes g n w xs)
    (few : n + length xs + 1 ≤ most4) (ent : Enters g.unit (n + length xs + 1) res.images) (sav : Saves (n + length xs + 1) xs w rs)
    (whole : length w ≡ 16384) (low : Lower (n + length xs + 1) w) where
  -- LE's number
  abbrev last : ℕ
  last = n + length xs + 1

  -- what is lacked once these images are logged, those to come being ks
  abbrev others : (ks : List Image) → List Rec
  others ks = logging ks ++ (LE g.unit res.images ∷ [])

  module _ (l : List Rec) (is ks : List Image) (all : res.images ≡ is ++ ks) (o : Opened g (state_of c l) n is) where
    lacked-is : lacked_by o.unit (state_of c l) w ≡ lacks (others ks)
    unfolding lacked_by
    lacked-is =
        let m : (state_of c l).number - length o.unit.did ≡ n = omega (arith, o.number, o.many) in
        ap (λ (b : Begin). rest_of b ((state_of c l).number - length o.unit.did) o.unit.did w) o.start
        ∙ ap (λ (i : ℕ). rest_of g i o.unit.did w) m
        ∙ res.rest o.unit.did is ks o.images all

    saves-so : saves o.unit.start ≡ true
    saves-so = ap saves o.start ∙ v

    left_is : store.left c w l ≡ length (others ks)
    left_is = ap (λ (y : Option Open). left_of y (state_of c l) w) o.opened ∙ left-save o.unit (state_of c l) w (others ks) saves-so lacked-is

    counted : (length xs ≡ length is + length ks) × (length (others ks) ≡ length ks + 1)
    counted = (
      sym (length-map xs (image_of last)) ∙ ap length (sym res.are) ∙ ap length all ∙ length-append is ks,
      length-logging ks (LE g.unit res.images ∷ []),
    )

    -- a record that the unit may log comes next
    fits-of : (r : Rec) → Logs g.unit is r → Bears ((state_of c l).number + 1) r → Fits (state_of c l) r
    fits-of r h b =
        let k : Logs o.unit.start.unit (images_of o.unit.did []) r =
        subst (λ (b : Begin). Logs b.unit (images_of o.unit.did []) r) (sym o.start) (subst (λ (js : List Image). Logs g.unit js r) (sym o.images) h) in
        record {
          room = omega (arith, o.number, counted.0, few);
          follows = subst (λ (y : Option Open). Follows (state_of c l).unit y r) (sym o.opened) (logs saves-so k);
          bears = b;
        }

    saved-same : (r : Rec) (fs : List (List ℕ)) → Fits (state_of c l) r → saved_by (l ++ (r ∷ [])) fs ≡ saved_by l fs
    saved-same r fs f = saved-more l fs (subst (λ (y : Option Open). Follows (state_of c l).unit y r) o.opened f.follows)

    next-is : (r : Rec) (ts : List Rec) → others ks ≡ r ∷ ts → (state_of c l).at + sizes (others ks) ≤ log_length → store.next c w l ≡ some r
    next-is r ts e f =
        next-of o.unit (state_of c l) w r ts saves-so o.opened (lacked-is ∙ ap lacks e) (subst (λ (ys : List Rec). (state_of c l).at + sizes ys ≤ log_length) e f)
        (subst (λ (ys : List Rec). (state_of c l).number + length ys ≤ most4) e (omega (arith, o.number, counted.0, counted.1, few)))

  end-able : (l : List Rec) (is : List Image) → res.images ≡ is ++ [] → Opened g (state_of c l) n is → Stored c l
      → (state_of c l).at + sizes (others []) ≤ log_length → rs ≡ saved_by l (all_records (pages origin)) → Able store asked origin c w l
  unfolding logging sizes
  end-able l is all o h f same =
      let r : Rec = LE g.unit res.images in
      let at-end : (state_of c l).number + 1 ≡ last = omega (arith, o.number, (counted l is [] all o).0) in
      let is_all : is ≡ res.images = sym (append-nil is) ∙ sym all in
      let fits : Fits (state_of c l) r =
      fits-of l is [] all o r (subst (λ (js : List Image). Logs g.unit js r) (sym is_all) ent.end) (subst (λ (i : ℕ). Bears i r) (sym at-end) ent.bears) in
      let h' : Stored c (l ++ (r ∷ [])) = stored-grown c l r h fits (omega (arith, f)) in
      let number_is : c.number + length l + 1 ≡ last = omega (arith, at-end, number-at_end (log_of c l)) in
      let applies : apply (c.number + length l + 1) r w ≡ some (laid last xs w) =
      ap (λ (i : ℕ). apply i r w) number_is ∙ ap (λ (js : List Image). apply last (LE g.unit js) w) res.are ∙ save-ends g.unit last xs w rs whole low sav in
      let shut : (state_of c (l ++ (r ∷ []))).opened ≡ none = opened-grown c l r ∙ unfold opened_by in refl in
      let zero_left : store.left c (laid last xs w) (l ++ (r ∷ [])) ≡ 0 =
      left-none (state_of c (l ++ (r ∷ []))).opened (state_of c (l ++ (r ∷ []))) (laid last xs w) shut in
      more (h.good, h.fits) (left_is l is [] all o) zero_left (next-is l is [] all o r [] refl f) applies
      (closed (h'.good, h'.fits) zero_left
      (sav.tidy.tree, sav.records ∙ same ∙ sym (saved-same l is [] all o r (all_records (pages origin)) fits)))

  -- it can be finished, whichever images are logged
  pub save-able : (ks is : List Image) (l : List Rec) → res.images ≡ is ++ ks → Opened g (state_of c l) n is → Stored c l
      → (state_of c l).at + sizes (others ks) ≤ log_length → rs ≡ saved_by l (all_records (pages origin)) → Able store asked origin c w l
  save-able [] is l all o h f same = end-able l is all o h f same
  save-able (k ∷ ks) is l all o h f same =
      let r : Rec = LG k in
      let fits : Fits (state_of c l) r = fits-of l is (k ∷ ks) all o r (ent.image is k ks all) tt in
      let q : sizes (others (k ∷ ks)) ≡ size r + sizes (others ks) = unfold logging sizes in refl in
      let h' : Stored c (l ++ (r ∷ [])) = stored-grown c l r h fits (omega (arith, f, q)) in
      let all' : res.images ≡ (is ++ k ∷ []) ++ ks = all ∙ sym (append_assoc is (k ∷ []) ks) in
      let o' : Opened g (state_of c (l ++ (r ∷ []))) n (is ++ k ∷ []) = open-noted g c l n is k o in
      let stays : apply (c.number + length l + 1) r w ≡ some w = apply-stays (c.number + length l + 1) r w (unfold targets in refl) in
      let one : others (k ∷ ks) ≡ r ∷ others ks = unfold logging in refl in
      more (h.good, h.fits) (left_is l is (k ∷ ks) all o ∙ ap length one) (left_is (l ++ (r ∷ [])) (is ++ k ∷ []) ks all' o')
      (next-is l is (k ∷ ks) all o r (others ks) one f) stays
      (save-able ks (is ++ k ∷ []) (l ++ (r ∷ [])) all' o' h' (omega (arith, at-grown c l r, f, q))
      (same ∙ sym (saved-same l is (k ∷ ks) all o r (all_records (pages origin)) fits)))
