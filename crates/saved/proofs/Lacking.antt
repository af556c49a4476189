-- What an open put or delete lacks, where no test refuses it: the LGs of the images that are not logged yet, then its LE. The first of these
-- records may come next in the log. Assumes nothing.
use Prim.Native.Nat.{ℕ, ◌+◌, ◌≤◌}
use native.Mathlib.Omega.{arith}
use mathlib.Core.Path.{◌≡◌, refl, sym, ap, ◌∙◌, subst}
use mathlib.Core.Bool.{Bool, true, false}
use mathlib.Core.List.{List, [], ◌∷◌, ◌++◌, map, append-nil}
use lib.ListN.{length, drop, get_or}
use lib.Dec.{eqb}
use Rattle.field.specs.Test.{pick}
use Rattle.field.specs.Bytes.{Bytes, most4}
use Rattle.field.proofs.Test.{both-1}
use Rattle.page.specs.Page.{leaf, key_of, ascend_records}
use Rattle.page.specs.Each.{Each, Long}
use Rattle.page.specs.Pages.{pages, all_formed}
use Rattle.page.proofs.Order.{First, ascend-facts}
use Rattle.tree.specs.Tree.{well_formed, all_records}
use Rattle.logs.specs.Record.{Begin, saves, Image, Rec, LG, LE}
use Rattle.logs.specs.Log.{carries_ok, begin_ok, all_bear}
use Rattle.logs.specs.Valid.{Logs, Bears}
use Rattle.logs.proofs.Begin.{begin_ok-saved, begin-carries}
use Rattle.saving.specs.Save.{Sheet, Changed, cannot, sheets, with_record, without_key, put_sheets, delete_sheets}
use Rattle.saving.specs.Rest.{image_of, sheets_of, lacks, begins, logging, imaging, saving, resumed}
use Rattle.saving.proofs.Resumes.{begins-split, lacks-same, refuses-not, need-lacks}
use Rattle.tidy.specs.Tidy.{Tidy}
use Rattle.saved.specs.Saved.{Saves, RowOf}
use Rattle.saved.specs.Units.{Enters}
use Rattle.saved.proofs.Put.{put-saves}
use Rattle.saved.proofs.Delete.{delete-saves}

-- ---- what is lacked

pub record Lacked (g : Begin) (n : ℕ) (is : List Image) (w : List ℕ) (rs : List Rec) : Type 0 where
  pub tidy : Tidy w
  pub changed : List Sheet
  pub are : sheets_of g (pages w) ≡ sheets changed
  pub others : List Image
  pub images : map (image_of (n + length changed + 1)) changed ≡ is ++ others
  pub recs : rs ≡ logging others ++ (LE g.unit (is ++ others) ∷ [])

by-changed : (g : Begin) (n : ℕ) (is : List Image) (w : List ℕ) (rs : List Rec) → Tidy w → (c : Changed) → sheets_of g (pages w) ≡ c → saving g n is c ≡ lacks rs
    → Lacked g n is w rs
unfolding saving imaging
by-changed g n is w rs t (cannot r) e h = absurd (refuses-not r rs h)
by-changed g n is w rs t (sheets xs) e h =
    let js : List Image = map (image_of (n + length xs + 1)) xs in
    let a = need-lacks (begins (n + length xs + 1) is js) 5 _ rs h in
    let s : js ≡ is ++ drop (length is) js = begins-split (n + length xs + 1) is js a.0 in
    record {
      tidy = t;
      changed = xs;
      are = e;
      others = drop (length is) js;
      images = s;
      recs = sym (lacks-same _ rs a.1) ∙ ap (λ (k : List Image). logging (drop (length is) js) ++ (LE g.unit k ∷ [])) s;
    }

pub lacked : (g : Begin) (n : ℕ) (is : List Image) (w : List ℕ) (rs : List Rec) → length w ≡ 16384 → Bytes w → resumed g n is w ≡ lacks rs → Lacked g n is w rs
unfolding resumed
lacked g n is w rs long b e =
    let x = need-lacks (all_formed 0 (pages w)) 3 _ rs e in
    let y = need-lacks (well_formed (pages w)) 8 _ rs x.1 in
    by-changed g n is w rs (record { whole = long; bytes = b; form = x.0; tree = y.0 }) (sheets_of g (pages w)) refl y.1

-- ---- the pages changed are those of a put or a delete

one-row : (rs : List (List ℕ)) → length rs ≡ 1 → Each (Long 16) rs → Each Bytes rs → ascend_records 0 rs ≡ true → RowOf leaf (get_or rs 0 [])
one-row [] e l b a = absurd (omega (arith, e))
one-row (r ∷ rs) e (Each.cons x xs) (Each.cons y ys) a = let f : First 114 99 0 r rs = ascend-facts 114 99 0 r rs a in record { long = x; one = f.one; two = f.two; bytes = y }

module _ (g : Begin) (ok : begin_ok g ≡ true) (v : saves g ≡ true) (l : Each (Long 16) g.saved) (b : Each Bytes g.saved) where
  -- the record that is carried
  pub carried_row : RowOf leaf (get_or g.saved 0 [])
  unfolding carries_ok
  carried_row = one-row g.saved (begin_ok-saved g ok ∙ rw v (unfold pick in refl)) l b (both-1 _ _ (begin-carries g ok v))

  -- the records of the tree afterwards
  abbrev pub after : List (List ℕ) → List (List ℕ)
  after rs = pick (eqb g.type 4) (with_record (get_or g.saved 0 []) rs) (without_key (key_of (get_or g.saved 0 [])) rs)

  pub save-saves : (w : List ℕ) → Tidy w → (n : ℕ) → n ≤ most4 → (xs : List Sheet) → sheets_of g (pages w) ≡ sheets xs → Saves n xs w (after (all_records (pages w)))
  unfolding sheets_of pick
  save-saves w t n h xs e = by-type (eqb g.type 4) e
    where
      by-type : (z : Bool) → pick z (put_sheets (get_or g.saved 0 []) (pages w)) (delete_sheets (key_of (get_or g.saved 0 [])) (pages w)) ≡ sheets xs
          → Saves n xs w (pick z (with_record (get_or g.saved 0 []) (all_records (pages w))) (without_key (key_of (get_or g.saved 0 [])) (all_records (pages w))))
      by-type true q = put-saves w t (get_or g.saved 0 []) carried_row n h xs q
      by-type false q = delete-saves w t (key_of (get_or g.saved 0 [])) n h xs q

-- ---- the first record lacked

pub first-logs : (u n m : ℕ) (is ks : List Image) (r : Rec) (rs : List Rec) → Enters u m (is ++ ks) → (ks ≡ [] → m ≡ n) → logging ks ++ (LE u (is ++ ks) ∷ []) ≡ r ∷ rs
    → Logs u is r × Bears n r
unfolding logging
first-logs u n m is [] r rs h f e =
    let q : LE u (is ++ []) ≡ r = cc in
    let last : Logs u is (LE u (is ++ [])) = subst (λ (js : List Image). Logs u js (LE u (is ++ []))) (append-nil is) h.end in
    let bears : all_bear n (is ++ []) ≡ true = rw (← f refl) h.bears in
    subst (λ (x : Rec). Logs u is x × Bears n x) q (last, bears)
first-logs u n m is (k ∷ ks) r rs h f e =
    let q : LG k ≡ r = cc in
    subst (λ (x : Rec). Logs u is x × Bears n x) q (h.image is k ks refl, tt)
