-- Document 01, "Steps": the record that a planned step appends, what a record does to the pages, forward and repeated alike, and the
-- room that steps need. Assumes nothing.
use Rattle.std.specs.Prelude.{ℕ, ◌+◌, Bool, true, not, List, [], ◌∷◌, eqb, leb}
use Rattle.std.proofs.Math.Option.{Option, some, none}
use Rattle.field.specs.Test.{both, pick, when, bind}
use Rattle.page.specs.Page.{key_of, to_page, count, number, entries, records, is_leaf}
use Rattle.page.specs.Change.{emptied, appended, redirected, removed}
use Rattle.page.specs.Pages.{page, put_page}
use Rattle.logs.specs.Record.{out, into, modify, end, length_of, Image, Rec, LB, LO, LI, LM, LG, LE}
use Rattle.logs.specs.Plan.{Step, take_out, bring_in, point, close}
use Rattle.logs.specs.Log.{taken}

-- ---- what a record does

-- the pages that images are of
unfoldable pub places_of : List Image → List ℕ
places_of [] = []
places_of (i ∷ is) = i.at ∷ places_of is

-- the image of page p, where there is one; else the page as it is
unfoldable pub image_at : (p : ℕ) → List Image → (pg : List ℕ) → List ℕ
image_at p [] pg = pg
image_at p (i ∷ is) pg = let rest = image_at p is pg in pick (eqb i.at p) i.bytes rest

-- the pages that it changes, each once: LO's org, LI's dest, LM's base, those of LE's images; none for LB and LG
unfoldable pub targets : Rec → List ℕ
targets (LB g) = []
targets (LO org dest rs) = org ∷ []
targets (LI org dest back rs) = dest ∷ []
targets (LM base old new key) = base ∷ []
targets (LG i) = []
targets (LE unit images) = places_of images

-- what the record numbered n does to page p of these; none is reply 5. "Only LE changes pages, each whose number is lower"
unfoldable pub change : (n : ℕ) → Rec → (p : ℕ) → List ℕ → Option (List ℕ)
change n (LB g) p pg = some pg
change n (LO org dest rs) p pg = emptied n rs pg
change n (LI org dest back rs) p pg = appended n rs pg
change n (LM base old new key) p pg = pick (eqb new 0) (removed n key old pg) (redirected n key old new pg)
change n (LG i) p pg = some pg
change n (LE unit images) p pg = some (pick (leb n (number pg)) pg (image_at p images pg))

-- the same repeated: "repeats each record whose number exceeds the page's"
unfoldable pub change_again : (n : ℕ) → Rec → (p : ℕ) → List ℕ → Option (List ℕ)
change_again n r p pg = pick (leb n (number pg)) (some pg) (change n r p pg)

-- these pages of w changed one after the other: each becomes what f makes of it
unfoldable pub changed_at : (ps : List ℕ) → (f : (p : ℕ) → List ℕ → Option (List ℕ)) → (w : List ℕ) → Option (List ℕ)
changed_at [] f w = some w
changed_at (p ∷ ps) f w = bind (f p (page p w)) (λ pg. changed_at ps f (put_page p pg w))

-- the record numbered n applied to the work pages; none is reply 5
unfoldable pub apply : (n : ℕ) → Rec → (w : List ℕ) → Option (List ℕ)
apply n r w = changed_at (targets r) (change n r) w

-- the record numbered n repeated on the pages, on each by the page's own number
unfoldable pub repeat : (n : ℕ) → Rec → (w : List ℕ) → Option (List ℕ)
repeat n r w = changed_at (targets r) (change_again n r) w

-- all these records repeated, the first numbered n
unfoldable pub repeat_all : (n : ℕ) → List Rec → (w : List ℕ) → Option (List ℕ)
repeat_all n [] w = some w
repeat_all n (r ∷ rs) w = bind (repeat n r w) (repeat_all (n + 1) rs)

-- ---- the next record

-- the page that a step changes
unfoldable pub target_of : Step → Option ℕ
target_of (take_out org dest) = some org
target_of (bring_in org dest back) = some dest
target_of (point base old new other) = some base
target_of (close unit) = none

unfoldable pub page_of : Option ℕ → (w : List ℕ) → List ℕ
page_of none w = []
page_of (some p) w = page p w

-- the key of the LM before; did has the latest first
unfoldable pub key_before : (did : List Rec) → Option ℕ
key_before [] = none
key_before (LB g ∷ did) = none
key_before (LO org dest rs ∷ did) = none
key_before (LI org dest back rs ∷ did) = none
key_before (LM base old new key ∷ did) = some key
key_before (LG i ∷ did) = none
key_before (LE unit images ∷ did) = none

-- an entry that may be taken: not the one with this key
unfoldable pub is_other : (skip : Option ℕ) → (key : ℕ) → Bool
is_other none key = true
is_other (some k) key = not (eqb key k)

-- "Where several entries point alike, LM takes the lowest": the key of the lowest entry to page p, but for the one to skip
unfoldable pub lowest_to : (skip : Option ℕ) (p : ℕ) → (es : List (List ℕ)) → Option ℕ
lowest_to skip p [] = none
lowest_to skip p (e ∷ es) =
    let rest = lowest_to skip p es in
    pick (both (eqb (to_page e) p) (is_other skip (key_of e))) (some (key_of e)) rest

-- "for A's under the same base, never the one just changed (the old key of the LM before)"
unfoldable pub skipped : (other : Bool) → (did : List Rec) → Option ℕ
skipped other did = pick other (key_before did) none

-- the record of a step, given the page pg that it changes and the unit's records so far; none is reply 5
unfoldable pub next_rec : Step → (did : List Rec) → (pg : List ℕ) → Option Rec
next_rec (take_out org dest) did pg = when (is_leaf pg) (LO org dest (records pg))
next_rec (bring_in org dest back) did pg = some (LI org dest back (taken back did))
next_rec (point base old new other) did pg = bind (lowest_to (skipped other did) old (entries pg)) (λ k. some (LM base old new k))
next_rec (close unit) did pg = some (LE unit [])

-- ---- room

-- the bytes of a step's record, "an LO to come counted by its work page's bytes 2-3"
unfoldable pub step_size : (w : List ℕ) → Step → ℕ
step_size w (take_out org dest) = length_of out (count (page org w))
step_size w (bring_in org dest back) = length_of into 0
step_size w (point base old new other) = length_of modify 0
step_size w (close unit) = length_of end 0

unfoldable pub room : (w : List ℕ) → List Step → ℕ
room w [] = 0
room w (x ∷ xs) = step_size w x + room w xs
