-- A changed page as the code holds it, a draft: a run of rows of a source page, perhaps a row that is new, and another run of that page; and
-- a plan, the drafts of a put or a delete in number order, or its reply. Assumes nothing.
use Rattle.std.specs.Prelude.{ℕ, ◌+◌, ◌-◌, ◌*◌, ◌≤◌, ◌<◌, ◌≡◌, Bool, List, [], ◌∷◌, ◌++◌, take, drop, get_or, eqb}
use Rattle.field.specs.Test.{pick}
use Rattle.field.specs.Bytes.{zeroes}
use Rattle.page.specs.Page.{entry, count, spare, rows}
use Rattle.page.specs.Pages.{page, pages}
use Rattle.saving.specs.Save.{Sheet, sheet, Changed, cannot, sheets}
use Rattle.saving.specs.declared.draft.Draft.{Draft}
use Rattle.saving.specs.declared.draft.More.{More}
use Rattle.saving.specs.declared.draft.More.TheVariants.{Nothing, Record, Entry}
use Rattle.saving.specs.declared.plan.Plan.{Plan}

-- ---- a draft

-- rows with one more in place i
unfoldable pub with_at : (i : ℕ) (r : List ℕ) → List (List ℕ) → List (List ℕ)
with_at i r rs = take i rs ++ (r ∷ drop i rs)

-- n rows of sz bytes of page p, from the i-th on
unfoldable pub run : (sz p i n : ℕ) (ps : List (List ℕ)) → List (List ℕ)
run sz p i n ps = take n (drop i (rows sz (get_or ps p [])))

-- the row that is new: none, the record r, or an entry
unfoldable pub inserted : (r : List ℕ) → More → List (List ℕ)
inserted r Nothing = []
inserted r Record = r ∷ []
inserted r (Entry key p) = entry key p.0 ∷ []

-- the spare bytes of page p, kept or zero
unfoldable pub spare_of : (kept : Bool) (p : ℕ) (ps : List (List ℕ)) → List ℕ
spare_of kept p ps = pick kept (spare (get_or ps p [])) (zeroes 8)

-- the changed page that a draft stands for, where ps are the pages and r is the record put
unfoldable pub sheet_of : (ps : List (List ℕ)) (r : List ℕ) → Draft → Sheet
sheet_of ps r d =
    sheet d.page.0 d.sign (spare_of d.kept d.page.0 ps)
    (run d.size d.source.0 d.from d.many ps ++ (inserted r d.more ++ run d.size d.source.0 d.next d.rest ps))

-- ---- what can be drawn

-- n rows of sz bytes from the i-th on are in page p
pub record Run (sz : ℕ) (w : List ℕ) (p i n : ℕ) : Type 0 where
  pub there : i + n ≤ count (page p w)
  pub fits : 16 + sz * (i + n) ≤ 256

-- a record is a row of 16 bytes, an entry one of 8
abbrev pub Suits : (sz : ℕ) → More → Type 0
Suits sz Nothing = Unit {0}
Suits sz Record = sz ≡ 16
Suits sz (Entry key p) = sz ≡ 8

-- the draft d can be drawn: its runs are rows of a page of w, and with a new row they fit a page
pub record Ready (w : List ℕ) (d : Draft) : Type 0 where
  pub inside : d.page.0 < 64
  pub source : d.source.0 < 64
  pub front : Run d.size w d.source.0 d.from d.many
  pub suits : Suits d.size d.more
  pub back : Run d.size w d.source.0 d.next d.rest
  pub room : d.size * (d.many + 1 + d.rest) ≤ 240
  pub few : d.many + 1 + d.rest ≤ 30

-- the draft d can be drawn, and stands for this page, whatever the record put
pub record Draws (w : List ℕ) (d : Draft) (x : List ℕ → Sheet) : Type 0 where
  pub same : (r : List ℕ) → sheet_of (pages w) r d ≡ x r
  pub ready : Ready w d

-- the rows of page p before the i-th and from the k-th on, with a row between them, are rows of a page
pub record Patch (sz : ℕ) (w : List ℕ) (p i : ℕ) (more : More) (k : ℕ) : Type 0 where
  pub fits : 16 + sz * count (page p w) ≤ 256
  pub low : i ≤ count (page p w)
  pub high : k ≤ count (page p w)
  pub room : sz * (i + 1 + (count (page p w) - k)) ≤ 240
  pub few : i + 1 + (count (page p w) - k) ≤ 30
  pub suits : Suits sz more

-- ---- a plan

-- the drafts that it lists, as pages; or its reply
unfoldable pub planned : (ps : List (List ℕ)) (r : List ℕ) → Plan → Changed
planned ps r x =
    pick (eqb x.reply 0)
    (sheets (take x.count (sheet_of ps r x.first ∷ sheet_of ps r x.second ∷ sheet_of ps r x.third ∷ sheet_of ps r x.fourth ∷ [])))
    (cannot x.reply)

-- the draft in place i
unfoldable pub draft_at : Plan → (i : ℕ) → Draft
draft_at x i = pick (eqb i 0) x.first (pick (eqb i 1) x.second (pick (eqb i 2) x.third x.fourth))

-- the plan x says what is changed, and each of its drafts can be drawn
pub record Plans (w r : List ℕ) (x : Plan) (c : Changed) : Type 0 where
  pub same : planned (pages w) r x ≡ c
  pub few : x.count ≤ 4
  pub one : Ready w x.first
  pub two : Ready w x.second
  pub three : Ready w x.third
  pub four : Ready w x.fourth
