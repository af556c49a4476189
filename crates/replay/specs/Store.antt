-- Demand 3, the half that knows nothing of trees and bytes: pages that bear the number of their last change, a log of numbered records, and
-- every order of calls and power cuts. `Format` is what pages, records and units do, `Meaning` what is asked of them. `Reached` holds of
-- whatever a history leads to, `Recovers` says what recovery must then give. proofs/Theorem.antt shows it from the laws in Laws.antt.
-- A cut keeps the store as it is, every record of the log that was forced, and any number of those behind. A checkpoint may rewrite pages,
-- each keeping its number, before it replaces the log: a cut in its midst leaves some rewritten beside the old log (`Tears`), and the run
-- without cuts has that rewriting at the same point of the log (`Event`). Assumes nothing.
use Rattle.std.specs.Prelude.{ℕ, zero, suc, ◌+◌, ◌≤◌, ◌<◌, ◌≡◌, cond, List, [], ◌∷◌, ◌++◌, leb, length, take}
use Rattle.std.proofs.Math.Option.{Option, none, some, bind}

-- ---- what is computed

-- the records one after the other, the first of them numbered n; none as soon as one is refused
unfoldable pub run : {R X : Type 0} → (ℕ → R → X → Option X) → (n : ℕ) → List R → X → Option X
run f n [] x = some x
run f n (r ∷ rs) x = bind (f n r x) (run f (n + 1) rs)

-- what pages, log records and units are and do. A log is a check record and the list of the records after it
pub record Format : Type 1 where
  pub Page : Type 0
  pub Pages : Type 0
  -- a record other than the check record
  pub Rec : Type 0
  pub Check : Type 0
  -- the page numbers are those below it
  pub many : ℕ
  -- page p
  pub at : Pages → (p : ℕ) → Page
  -- `to`, with page p as it is in `from`
  pub copy : (p : ℕ) → (from to : Pages) → Pages
  -- the number of the record that changed the page last
  pub stamp : Page → ℕ
  -- what the record numbered n makes of a page p with a lower number: the same page where it does not concern it, none where it is refused
  pub change : (n : ℕ) → Rec → (p : ℕ) → Page → Option Page
  -- what it makes of all pages, and what it makes of them when it is repeated: a page whose stamp is not below n stays
  pub apply : (n : ℕ) → Rec → Pages → Option Pages
  pub repeat : (n : ℕ) → Rec → Pages → Option Pages
  -- the check record's number; those of the records after it go on from there
  pub num : Check → ℕ
  -- how many records the open unit still lacks, by the pages too; 0 where none is open
  pub left : Check → Pages → List Rec → ℕ
  -- the open unit's next record; none where the step is refused
  pub next : Check → Pages → List Rec → Option Rec

module _ (F : Format) where
  open F use {Page, Pages, Rec, Check, stamp, change, apply, repeat, num, left, next}

  -- the number of the log's last record
  abbrev pub last : Check → List Rec → ℕ
  last c l = num c + length l

  -- what the record numbered n makes of page p when it is repeated
  unfoldable pub again : (n : ℕ) → Rec → (p : ℕ) → Page → Option Page
  again n r p pg = cond (leb n (stamp pg)) (some pg) (change n r p pg)

  -- append the k records that the open unit lacks
  unfoldable pub finish : Check → (k : ℕ) → Pages → List Rec → Option (Pages × List Rec)
  finish c zero w l = some (w, l)
  finish c (suc k) w l = bind (next c w l) (λ r. bind (apply (last c l + 1) r w) (λ w'. finish c k w' (l ++ (r ∷ []))))

  -- recovery: repeat the log over the stored pages, then finish the open unit
  unfoldable pub recover : Check → (store : Pages) → List Rec → Option (Pages × List Rec)
  recover c s l = bind (run repeat (num c + 1) l s) (λ w. finish c (left c w l) w l)

-- ---- what is asked

pub record Meaning (F : Format) : Type 1 where
  -- all pages together have their length
  pub Sized : F.Pages → Type 0
  -- page form, by the page's number
  pub Form : (p : ℕ) → F.Page → Type 0
  -- log form
  pub Shape : F.Check → List F.Rec → Type 0
  -- a well-formed tree with the records that the log makes of those that the pages at the check record held
  pub Fine : (origin : F.Pages) → List F.Rec → F.Pages → Type 0
  -- a begin call appends this record
  pub Begins : F.Check → F.Pages → List F.Rec → F.Rec → Type 0
  -- a checkpoint call makes these of the work pages and of the store's, and writes this check record
  pub Checks : F.Check → (work store : F.Pages) → List F.Rec → F.Check → (work' store' : F.Pages) → Type 0
  -- a checkpoint call that is cut before its log is written leaves these of the store's pages
  pub Tears : F.Check → (store : F.Pages) → List F.Rec → (store' : F.Pages) → Type 0
  -- a rewriting of pages that the run without cuts has at this point of its log
  pub Event : F.Check → F.Pages → List F.Rec → F.Pages → Type 0

module _ (F : Format) (M : Meaning F) where
  open F use {Pages, Rec, Check, many, at, copy, stamp, apply, repeat, num, left, next}
  open M use {Sized, Form, Shape, Fine, Begins, Checks, Tears, Event}

  -- pages of the right length, each in form
  pub record Formed (w : Pages) : Type 0 where
    pub sized : Sized w
    pub form : (p : ℕ) → p < many → Form p (at w p)

  -- pages w and a log of c and l between two units; o are the pages at the check record
  pub record Settled (o w : Pages) (c : Check) (l : List Rec) : Type 0 where
    pub formed : Formed w
    pub shape : Shape c l
    pub low : (p : ℕ) → p < many → stamp (at w p) ≤ last F c l
    pub fine : Fine o l w
    pub complete : left c w l ≡ 0

  -- from pages o and a log of the check record c alone, begin and step calls and rewritings lead to pages w and records l
  pub data Uncut (o : Pages) (c : Check) : (w : Pages) (l : List Rec) → Type 0 where
    start : Uncut o c o []
    begin : {w w' : Pages} {l : List Rec} {r : Rec}
        → Uncut o c w l → left c w l ≡ 0 → Begins c w l r → apply (last F c l + 1) r w ≡ some w'
        → Uncut o c w' (l ++ (r ∷ []))
    step : {w w' : Pages} {l : List Rec} {r : Rec} {k : ℕ}
        → Uncut o c w l → left c w l ≡ suc k → next c w l ≡ some r → apply (last F c l + 1) r w ≡ some w'
        → Uncut o c w' (l ++ (r ∷ []))
    event : {w w' : Pages} {l : List Rec}
        → Uncut o c w l → Event c w l w'
        → Uncut o c w' l

  -- calls and cuts lead to work pages x (none: lost by a cut), store pages s and a log of the check record c and the records l, the
  -- first f of which are forced; o are the pages as they were when c was written. A refused call changes nothing, so it has no rule.
  -- After a cut only recovery can follow. A cut within a call is one before or after it, but for a checkpoint's (`torn`); within recovery,
  -- one after it that keeps fewer of the records that it appended
  pub data Reached : (o : Pages) (x : Option Pages) (s : Pages) (c : Check) (l : List Rec) (f : ℕ) → Type 0 where
    start : {o : Pages} {c : Check}
        → Settled o o c []
        → Reached o (some o) o c [] 0
    begin : {o w w' s : Pages} {c : Check} {l : List Rec} {f : ℕ} {r : Rec}
        → Reached o (some w) s c l f → left c w l ≡ 0 → Begins c w l r → apply (last F c l + 1) r w ≡ some w'
        → Reached o (some w') s c (l ++ (r ∷ [])) f
    step : {o w w' s : Pages} {c : Check} {l : List Rec} {f k : ℕ} {r : Rec}
        → Reached o (some w) s c l f → left c w l ≡ suc k → next c w l ≡ some r → apply (last F c l + 1) r w ≡ some w'
        → Reached o (some w') s c (l ++ (r ∷ [])) f
    force : {o w s : Pages} {c : Check} {l : List Rec} {f : ℕ}
        → Reached o (some w) s c l f
        → Reached o (some w) s c l (length l)
    flush : {o w s : Pages} {c : Check} {l : List Rec} {f : ℕ} (p : ℕ)
        → Reached o (some w) s c l f → p < many → stamp (at w p) ≤ num c + f
        → Reached o (some w) (copy p w s) c l f
    checkpoint : {o w w' s s' : Pages} {c c' : Check} {l : List Rec} {f : ℕ}
        → Reached o (some w) s c l f → left c w l ≡ 0 → w ≡ s → Checks c w s l c' w' s'
        → Reached w' (some w') s' c' [] 0
    torn : {o w s s' : Pages} {c : Check} {l : List Rec} {f : ℕ}
        → Reached o (some w) s c l f → left c w l ≡ 0 → w ≡ s → Tears c s l s'
        → Reached o none s' c l f
    cut : {o s : Pages} {x : Option Pages} {c : Check} {l : List Rec} {f : ℕ} (m : ℕ)
        → Reached o x s c l f → f ≤ m → m ≤ length l
        → Reached o none s c (take m l) f
    recovery : {o w s : Pages} {x : Option Pages} {c : Check} {l l' : List Rec} {f : ℕ}
        → Reached o x s c l f → recover F c s l ≡ some (w, l')
        → Reached o (some w) s c l' (length l)

  -- recovery over store pages s and a log of c and l gives none of the refusals 2 to 8, and leaves what an uncut run would have left
  pub record Recovers (o s : Pages) (c : Check) (l : List Rec) : Type 0 where
    pub found : Pages  -- the log repeated, the open unit not yet finished
    pub repeated : run repeat (num c + 1) l s ≡ some found
    pub work : Pages
    pub rest : List Rec
    -- 2, 3, 4
    pub log-form : Shape c l
    pub page-form : Formed s
    pub numbers : (p : ℕ) → p < many → stamp (at s p) ≤ last F c l
    -- 5, 6, 7
    pub accepted : recover F c s l ≡ some (work, l ++ rest)
    -- 8: the tree is fine; and no unit is left open
    pub settled : Settled o work c (l ++ rest)
    -- the count that recovery returns
    pub appended : length rest ≡ left c found l
    -- pages and log are those of a run without cuts, before finishing and after it
    pub before : Uncut o c found l
    pub uncut : Uncut o c work (l ++ rest)
