-- The unit laws of the generic half: whatever a begin call wants, a unit that tidies, a put or a delete, can be finished; and a checkpoint leaves
-- what the next run can start from. Assumes nothing but that a chosen unit can be carried out, which is handed in.
use Prim.Native.Nat.{ℕ, ◌+◌, ◌≤◌}
use native.Mathlib.Omega.{arith}
use mathlib.Core.Path.{◌≡◌, refl, sym, ap, ◌∙◌, subst, subst₂}
use mathlib.Core.Bool.{Bool, true, false}
use mathlib.Core.Logic.{inl, inr}
use mathlib.Core.List.{List, [], ◌∷◌, ◌++◌}
use mathlib.Core.Option.{Option, some, none, some-injective}
use lib.ListN.{length, get_or, length-append, length-map}
use lib.Dec.{eqb}
use Rattle.field.specs.Test.{pick}
use Rattle.field.specs.Bytes.{Bytes, bytes4, zeroes, most4}
use Rattle.field.proofs.Byte.{bytes-cons, bytes-append, bytes-bytes4, bytes-zeroes}
use Rattle.page.specs.Page.{key_of}
use Rattle.page.specs.Each.{Each, Long}
use Rattle.page.specs.Pages.{pages}
use Rattle.page.specs.Places.{empty_leaf, place}
use Rattle.page.proofs.Pages.{formed-pages}
use Rattle.logs.specs.Record.{Check, Begin, saves, Image, Rec, LB, LE, size, sizes}
use Rattle.logs.specs.Write.{begin_of, save_of}
use Rattle.logs.specs.Plan.{plan}
use Rattle.logs.specs.Log.{Open, State, begin_ok, images_of, opened_by}
use Rattle.logs.specs.Valid.{Follows, begins, Fits, Small, Good}
use Rattle.logs.proofs.State.{number-at_end}
use Rattle.logs.proofs.Begin.{begin-none}
use Rattle.logs.proofs.Cut.{good-bare}
use Rattle.logs.proofs.Sound.{Sound, sound-at_end}
use Rattle.tree.specs.Tree.{all_records, Leaf, leaves_of}
use Rattle.unit.specs.Choice.{fill_of, larger, compact_of, choose_compact, compact_unit, base_of, move_of, swap_of, put_in_order, choose_order, order_unit}
use Rattle.unit.specs.Next.{apply, room}
use Rattle.saving.specs.Save.{with_record, without_key}
use Rattle.saving.specs.Rest.{image_of, lacks, logging, rest_of}
use Rattle.saving.proofs.Resumes.{length-logging}
use Rattle.saved.specs.Saved.{Saves}
use Rattle.saved.specs.Units.{Resumes, Enters}
use Rattle.saved.proofs.Resumed.{save-resumes}
use Rattle.saved.proofs.Entered.{save-enters}
use Rattle.saved.proofs.Lacking.{Lacked, lacked, save-saves}
use Rattle.tidy.specs.Tidy.{Tidy, Keeps}
use Rattle.store.specs.Calls.{log_length, deleting, checkpointed}
use Rattle.store.proofs.Chosen.{saves-put, saves-delete, put-ok, delete-ok}
use Rattle.putting.proofs.Puts.{deleting-long! }
use Rattle.replay.specs.Store.{Settled}
use Rattle.replay.specs.Laws.{Able, UnitLaws}
use Rattle.promise.specs.Promise.{saved_by}
use Rattle.promise.specs.Parts.{log_of, state_of, store, asked, Chooses, Carries, to-put, to-delete, Wants, tidying, saving, Checks}
use Rattle.promise.proofs.Image.{Stored, at-grown, opened-grown, stored-grown}
use Rattle.promise.proofs.Saved.{saved-begun, saved-tidies, saved-saves}
use Rattle.promise.proofs.Forward.{none-not, open_none}
use Rattle.promise.proofs.OnTidying.{carried-able, begun_opened}
use Rattle.promise.proofs.OnSaving.{Opened, save-able}
use Rattle.promise.proofs.Called.{bare-at, apply-begin}
use Rattle.promise.proofs.Starts.{none-left-bare, saved-bare}

-- ---- a chosen unit has the number that it was chosen for

some-unit : (u : ℕ) (x y : Option Begin) (b : Bool) → ((g : Begin) → x ≡ some g → g.unit ≡ u) → ((g : Begin) → y ≡ some g → g.unit ≡ u)
    → (g : Begin) → pick b x y ≡ some g → g.unit ≡ u
unfolding pick
some-unit u x y true h k g e = h g e
some-unit u x y false h k g e = k g e

is-unit : (u : ℕ) (h : Begin) → h.unit ≡ u → (g : Begin) → some h ≡ some g → g.unit ≡ u
is-unit u h i g e = sym (ap (λ (x : Begin). x.unit) (some-injective h g e)) ∙ i

choose-unit : (u fill low : ℕ) (lk : Option ℕ) (ps : List (List ℕ)) (ls : List Leaf) (g : Begin) → choose_compact u fill low lk ps ls ≡ some g → g.unit ≡ u
unfolding choose_compact compact_of
choose-unit u fill low lk ps [] g e = absurd (none-not g e)
choose-unit u fill low lk ps (c ∷ next) g e =
    some-unit u _ (choose_compact u fill (larger low c.at) lk ps next) _ (is-unit u _ refl)
    (λ h q. choose-unit u fill (larger low c.at) lk ps next h q) g e

put-unit : (u wanted : ℕ) (ps : List (List ℕ)) (ls : List Leaf) (l : Leaf) → (put_in_order u wanted ps ls l).unit ≡ u
unfolding put_in_order move_of swap_of
put-unit u wanted ps ls l = by-pick (empty_leaf wanted (get_or ps wanted []))
  where
    by-pick : (b : Bool) → (pick b (move_of u l wanted) (swap_of u l wanted (base_of wanted ls))).unit ≡ u
    by-pick true = unfold pick move_of in refl
    by-pick false = unfold pick swap_of in refl

order-unit : (u : ℕ) (ps : List (List ℕ)) (ls : List Leaf) (i : ℕ) (rest : List Leaf) (g : Begin) → choose_order u ps ls i rest ≡ some g → g.unit ≡ u
unfolding choose_order
order-unit u ps ls i [] g e = absurd (none-not g e)
order-unit u ps ls i (l ∷ rest) g e =
    some-unit u (choose_order u ps ls (i + 1) rest) _ (eqb l.at (place i)) (λ h q. order-unit u ps ls (i + 1) rest h q)
    (is-unit u _ (put-unit u (place i) ps ls l)) g e

pub chosen-unit : (s : State) (w : List ℕ) (g : Begin) → Chooses s w g → g.unit ≡ s.unit + 1
unfolding compact_unit order_unit
chosen-unit s w g (inl (fill, h, e)) = choose-unit (s.unit + 1) (fill_of fill) 7 s.lk (pages w) (leaves_of (pages w)) g e
chosen-unit s w g (inr e) = order-unit (s.unit + 1) (pages w) (leaves_of (pages w)) 0 (leaves_of (pages w)) g e

-- ---- the begin record of a put or a delete

pub record Ready (g : Begin) : Type 0 where
  pub ok : begin_ok g ≡ true
  pub saves : saves g ≡ true
  pub long : Each (Long 16) g.saved
  pub bytes : Each Bytes g.saved

bytes-deleting : (key : ℕ) → Bytes (deleting key)
unfolding deleting
bytes-deleting key =
    let rest : List ℕ = bytes4 key ++ zeroes 10 in
    bytes-cons 114 (99 ∷ rest) (omega arith)
    (bytes-cons 99 rest (omega arith) (bytes-append (bytes4 key) (zeroes 10) (bytes-bytes4 key) (bytes-zeroes 10)))

carries-ready : {type : ℕ} {r : List ℕ} (u : ℕ) → u ≤ most4 → Carries type r → Ready (save_of u type r)
unfolding save_of begin_of
carries-ready {r = r} u h (to-put long mark bytes) =
    record { ok = put-ok u r h mark; saves = saves-put u r; long = Each.cons long Each.nil; bytes = Each.cons bytes Each.nil }
carries-ready u h (to-delete key) =
    record {
      ok = delete-ok u key h;
      saves = saves-delete u (deleting key);
      long = Each.cons (deleting-long! key (deleting key) refl) Each.nil;
      bytes = Each.cons (bytes-deleting key) Each.nil;
    }

save-unit : (u type : ℕ) (r : List ℕ) → (save_of u type r).unit ≡ u
unfolding save_of begin_of
save-unit u type r = refl

-- ---- a unit that is begun can be finished

-- between two units the begin record may come next
begin-fits : (origin : List ℕ) (c : Check) (w : List ℕ) (l : List Rec) (g : Begin) → Settled store asked origin w c l → g.unit ≡ (state_of c l).unit + 1
    → begin_ok g ≡ true → Each (Long 16) g.saved → Each Bytes g.saved → (state_of c l).number + 1 ≤ most4 → Fits (state_of c l) (LB g)
begin-fits origin c w l g s u ok long bytes n =
    let o : (state_of c l).opened ≡ none =
    open_none (state_of c l).opened (state_of c l) w (sound-at_end (log_of c l) s.shape.0).waits s.formed.sized.0 s.formed.sized.1 s.complete in
    record {
      room = n;
      follows = subst (λ (y : Option Open). Follows (state_of c l).unit y (LB g)) (sym o) (begins u ok long bytes);
      bears = tt;
    }

stored_of : {origin : List ℕ} {c : Check} {w : List ℕ} {l : List Rec} → Settled store asked origin w c l → Stored c l
stored_of s = record { good = s.shape.0; fits = s.shape.1 }

-- a put or delete
module _ (origin : List ℕ) (c : Check) (w : List ℕ) (l : List Rec) (g : Begin) (rs : List Rec) (s : Settled store asked origin w c l) (y : Ready g)
    (u : g.unit ≡ (state_of c l).unit + 1) (e : rest_of g ((state_of c l).number + 1) [] w ≡ lacks rs)
    (f : (state_of c l).at + (size (LB g) + sizes rs) ≤ log_length) (n : (state_of c l).number + (1 + length rs) ≤ most4) where
  -- what it lacks is worked out
  all : Lacked g ((state_of c l).number + 1) [] w rs
  unfolding images_of
  all = lacked g ((state_of c l).number + 1) [] w rs s.formed.sized.0 s.formed.sized.1 e

  -- LE's number
  abbrev last : ℕ
  last = (state_of c l).number + 1 + length all.changed + 1

  many : length rs ≡ length all.changed + 1
  many =
      ap length all.recs ∙ length-logging all.others (LE g.unit all.others ∷ [])
      ∙ ap (λ (k : ℕ). k + 1) (ap length (sym all.images) ∙ length-map all.changed (image_of last))

  few : last ≤ most4
  few = omega (arith, many, n)

  resumes : Resumes g ((state_of c l).number + 1) w all.changed
  resumes = save-resumes g ((state_of c l).number + 1) w all.changed all.tidy all.are few

  -- the records then
  abbrev then : List (List ℕ) → List (List ℕ)
  then rows = pick (eqb g.type 4) (with_record (get_or g.saved 0 []) rows) (without_key (key_of (get_or g.saved 0 [])) rows)

  saved : Saves last all.changed w (then (all_records (pages w)))
  saved = save-saves g y.ok y.saves y.long y.bytes w all.tidy last few all.changed all.are

  enters : Enters g.unit last resumes.images
  enters = subst (Enters g.unit last) (sym resumes.are) (save-enters g.unit last all.changed w (then (all_records (pages w))) few saved)

  -- it opens, and no image is logged yet
  opens : Opened g (state_of c (l ++ (LB g ∷ []))) ((state_of c l).number + 1) []
  unfolding opened_by images_of
  opens =
      record {
        unit = record { start = g; did = []; todo = plan g };
        opened = opened-grown c l (LB g);
        start = refl;
        images = refl;
        many = refl;
        number = omega (arith, number-at_end (log_of c (l ++ (LB g ∷ []))), number-at_end (log_of c l), length-append l (LB g ∷ []));
      }

  saves-able : Able store asked origin c w (l ++ (LB g ∷ []))
  saves-able =
      let h : Stored c l = stored_of s in
      let fits : Fits (state_of c l) (LB g) = begin-fits origin c w l g s u y.ok y.long y.bytes (omega (arith, n)) in
      let h' : Stored c (l ++ (LB g ∷ [])) = stored-grown c l (LB g) h fits (omega (arith, f)) in
      let others-are : resumes.images ≡ all.others = resumes.are ∙ all.images in
      save-able origin c w g ((state_of c l).number + 1) all.changed (then (all_records (pages w))) y.saves resumes few enters saved s.formed.sized.0
      (λ p i. omega (arith, s.low p i, number-at_end (log_of c l))) resumes.images [] (l ++ (LB g ∷ [])) refl opens h'
      (omega (arith, at-grown c l (LB g), f, same_size others-are)) (sym records-are)
    where
      same_size : resumes.images ≡ all.others → sizes (logging resumes.images ++ (LE g.unit resumes.images ∷ [])) ≡ sizes rs
      same_size q =
          ap (λ (js : List Image). sizes (logging js ++ (LE g.unit js ∷ []))) q ∙ ap sizes (sym all.recs)

      records-are : saved_by (l ++ (LB g ∷ [])) (all_records (pages origin)) ≡ then (all_records (pages w))
      records-are =
          saved-begun l g (all_records (pages origin))
          ∙ saved-saves g (saved_by l (all_records (pages origin))) y.ok y.saves
          ∙ ap then (sym s.fine.1)

-- LK as it was, or cleared
lk-kept : (b : Bool) (lk : Option ℕ) (k : ℕ) → ((j : ℕ) → lk ≡ some j → j ≤ most4) → pick b none lk ≡ some k → k ≤ most4
unfolding pick
lk-kept true lk k h e = absurd (none-not k e)
lk-kept false lk k h e = h k e

-- ---- the laws

module _ (K : (n : ℕ) (s : State) (g : Begin) (w : List ℕ) → Tidy w → Chooses s w g → g.unit ≤ most4 → n + length (plan g) ≤ 4294967296 → Keeps n g w) where
  tidy_of : (origin w : List ℕ) (c : Check) (l : List Rec) → Settled store asked origin w c l → Tidy w
  tidy_of origin w c l s =
      record {
        whole = s.formed.sized.0;
        bytes = s.formed.sized.1;
        form = formed-pages w s.formed.form;
        tree = s.fine.0;
      }

  -- a unit that tidies
  tidies-able : (origin : List ℕ) (c : Check) (w : List ℕ) (l : List Rec) (g : Begin) → Settled store asked origin w c l → Chooses (state_of c l) w g
      → (state_of c l).at + (size (LB g) + room w (plan g)) ≤ log_length → (state_of c l).number + (1 + length (plan g)) ≤ most4 → g.unit ≤ most4
      → Able store asked origin c w (l ++ (LB g ∷ []))
  tidies-able origin c w l g s ch f n u =
      let m : (state_of c l).number ≡ c.number + length l = number-at_end (log_of c l) in
      let a : length (l ++ (LB g ∷ [])) ≡ length l + 1 = length-append l (LB g ∷ []) in
      let k : Keeps (c.number + length (l ++ (LB g ∷ [])) + 1) g w =
      K (c.number + length (l ++ (LB g ∷ [])) + 1) (state_of c l) g w (tidy_of origin w c l s) ch u (omega (arith, m, a, n)) in
      let bare : g.saved ≡ [] = begin-none g k.ok k.plain in
      let fits : Fits (state_of c l) (LB g) =
      begin-fits origin c w l g s (chosen-unit (state_of c l) w g ch) k.ok (subst (Each (Long 16)) (sym bare) Each.nil) (subst (Each Bytes) (sym bare) Each.nil)
      (omega (arith, n)) in
      let h' : Stored c (l ++ (LB g ∷ [])) = stored-grown c l (LB g) (stored_of s) fits (omega (arith, f)) in
      carried-able origin c g k.plain (l ++ (LB g ∷ [])) k.carried refl h' (begun_opened origin c g k.plain l) s.formed.sized.1
      (omega (arith, at-grown c l (LB g), f)) (omega (arith, m, a, n)) k.tidy.tree
      (k.same ∙ s.fine.1
      ∙ sym (saved-begun l g (all_records (pages origin)) ∙ saved-tidies g (saved_by l (all_records (pages origin))) k.plain))

  wants-able : (origin : List ℕ) (c : Check) (w : List ℕ) (l : List Rec) {g : Begin} {long many : ℕ} → Settled store asked origin w c l
      → Wants (state_of c l) w g long many → (state_of c l).at + (size (LB g) + long) ≤ log_length → (state_of c l).number + (1 + many) ≤ most4 → g.unit ≤ most4
      → Able store asked origin c w (l ++ (LB g ∷ []))
  wants-able origin c w l {g} s (tidying h) f n u = tidies-able origin c w l g s h f n u
  wants-able origin c w l {g} s (saving {type = type} {r = r} {rs = rs} h e) f n u =
      saves-able origin c w l g rs s
      (carries-ready ((state_of c l).unit + 1) (subst (λ (x : ℕ). x ≤ most4) (save-unit ((state_of c l).unit + 1) type r) u) h)
      (save-unit ((state_of c l).unit + 1) type r) e f n

  checked-good : (origin : List ℕ) (c c' : Check) (w : List ℕ) (l : List Rec) → Settled store asked origin w c l → Checks c l c'
      → (Good (log_of c' []) × ((state_of c' []).at ≤ log_length)) × (c'.number ≡ c.number + length l + 1)
  unfolding checkpointed
  checked-good origin c c' w l s x =
      let g : Good (log_of c l) = s.shape.0 in
      let t : Sound (state_of c l) = sound-at_end (log_of c l) g in
      let small : Small (checkpointed x.clear (state_of c l)) =
      record { number = x.numbered; unit = t.unit; lk = λ k e. lk-kept x.clear (state_of c l).lk k t.lk e } in
      rw x.is ((good-bare (checkpointed x.clear (state_of c l)) small, omega (arith, bare-at (checkpointed x.clear (state_of c l)))), omega (arith, number-at_end (log_of c l)))

  pub unit-laws : UnitLaws store asked
  unit-laws =
      record {
        unit = λ o c w w' l r s b e.
            let i : w ≡ w' =
            some-injective w w' (sym (apply-begin (c.number + length l + 1) b.begun w) ∙ sym (ap (λ (y : Rec). apply (c.number + length l + 1) y w) b.is) ∙ e) in
            subst₂ (λ (v : List ℕ) (y : Rec). Able store asked o c v (l ++ (y ∷ []))) i (sym b.is)
            (wants-able o c w l s b.wants b.fits b.numbered b.unit);
        checked = λ o c c' w w' s' l s x.
            let (a, b) = checked-good o c c' w l s x.0 in
            let t : Settled store asked w w c' [] =
            record {
              formed = s.formed;
              shape = a;
              low = λ p i. omega (arith, s.low p i);
              fine = (s.fine.0, saved-bare (all_records (pages w)));
              complete = none-left-bare c' w;
            } in
            (subst (λ (y : List ℕ). Settled store asked y y c' []) (sym x.1) t, x.1 ∙ sym x.2);
        rewritten = λ o c w w' l f a e. absurd e;
        torn = λ o c w s l t g e q. absurd e;
      }
