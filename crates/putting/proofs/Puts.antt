-- The answers of begin put and begin delete, as laws over what the code has there. Assumes nothing.
use Prim.Native.Nat.{ℕ, ◌+◌, ◌*◌, ◌≤◌, ◌<◌}
use native.Mathlib.Omega.{arith}
use mathlib.Core.Path.{◌≡◌, refl, sym, ap, ◌∙◌}
use mathlib.Core.Bool.{Bool, true, false, not}
use mathlib.Core.List.{List, [], ◌∷◌}
use borrow.Author.Tests.{eq-eqb, ne_eqb}
use lib.Dec.{eqb}
use lib.ListN.{length, get_or}
use Rattle.field.specs.Test.{need, given, there}
use Rattle.field.specs.Bytes.{put, zeroes, bytes4, Bytes, le2}
use Rattle.field.proofs.Test.{need-true, need-false}
use Rattle.page.specs.Page.{ascend, ascend_records}
use Rattle.page.proofs.Order.{First, ascend-facts, ascend-of}
use Rattle.logs.specs.Record.{Begin, Rec, LB, image, end, length_of, kind_of, carried, size, sizes, encode}
use Rattle.logs.specs.Log.{State, images_of, Log, at_end}
use Rattle.logs.specs.Scan.{shown, scanned}
use Rattle.logs.specs.declared.scan.Scan.{Scan}
use Rattle.logs.specs.Write.{begin_of, save_of}
use Rattle.logs.specs.declared.scan.Walk.{Walk}
use Rattle.saving.specs.Rest.{Rest, refuses, lacks, rest_of, resumed}
use Rattle.resuming.specs.Lacking.{Lacks, Needs}
use Rattle.store.specs.Calls.{Lent, lent, Left, left, refused, two_sized, known, begun_with, deleting, saving_all, begin_save, begin_put, begin_delete}
use Rattle.store.specs.Knows.{knows}
use Rattle.store.proofs.Passed.{Knows, knows-yes}
use Rattle.store.proofs.Ending.{shown-at, shown-number, shown-unit}
use Rattle.store.proofs.Replies.{refused_as}
use Rattle.starting.proofs.Asked.{Kept, got, begin-past}
use Rattle.starting.proofs.Starts.{begun-room, begun-number, begun-unit, begun-begins}

-- ---- past test 9

module _ (d : Lent) (s : State) (g : Begin) where
  abbrev lacked : Rest
  lacked = rest_of g (s.number + 1) [] d.work

  save-open : there s.opened ≡ true → begin_save d s g ≡ refused 0 9 d
  unfolding begin_save
  save-open o = need-false _ (refused 0 9 d) _ (ap not o)

  module _ (o : there s.opened ≡ false) where
    save-refused : (r : ℕ) → lacked ≡ refuses r → begin_save d s g ≡ refused 0 r d
    unfolding begin_save saving_all
    save-refused r e = need-true _ (refused 0 9 d) _ (ap not o) ∙ ap (saving_all d s g) e

    save-with : (rs : List Rec) → lacked ≡ lacks rs → begin_save d s g ≡ begun_with d s g (sizes rs) (length rs)
    unfolding begin_save saving_all
    save-with rs e = need-true _ (refused 0 9 d) _ (ap not o) ∙ ap (saving_all d s g) e

-- ---- the answers of the code, at a log's end s with the numbers w

module _ (used forced : ℕ) (work log bytes r : List ℕ) (w : Walk) (kind : ℕ) (s : State) (e : w ≡ shown s) where
  abbrev given_to : Lent
  given_to = lent used forced work [] log bytes

  abbrev lb : Begin
  lb = save_of (s.unit + 1) kind r

  abbrev meant : Left
  meant = begin_save given_to s lb

  opened-is : (b : Bool) → w.opened ≡ b → there s.opened ≡ b
  unfolding shown
  opened-is b o = sym (ap (λ (x : Walk). x.opened) e) ∙ o

  at-is : w.at ≡ s.at
  at-is = shown-at w s e

  number_is : w.number.0 ≡ s.number
  number_is = shown-number w s e

  unit-next : lb.unit ≡ w.unit.0 + 1
  unfolding save_of begin_of
  unit-next = ap (λ (x : ℕ). x + 1) (sym (shown-unit w s e))

  module _ (v u f : ℕ) where
    abbrev kept : Left
    kept = left v [] (lent u f work [] log bytes)

    pub put-open : (v ≡ 9) × (u ≡ used) × (f ≡ forced) → w.opened ≡ true → kept ≡ meant
    put-open q o = refused_as given_to 9 v u f meant (save-open given_to s lb (opened-is true o)) q

  module _ (shut : w.opened ≡ false) (reply many : ℕ)
      (n : (g : Begin) (n : ℕ) → g.type ≡ kind → get_or g.saved 0 [] ≡ r → Needs (resumed g n [] work) reply many) where
    needs : Needs (rest_of lb (s.number + 1) [] work) reply many
    unfolding save_of begin_of images_of
    needs = n lb (s.number + 1) refl refl

    pub put_refused : (v u f : ℕ) → (v ≡ reply) × (u ≡ used) × (f ≡ forced) → (reply ≡ 0 → ⊥) → left v [] (lent u f work [] log bytes) ≡ meant
    put_refused v u f q z = refused_as given_to reply v u f meant (save-refused given_to s lb (opened-is false shut) reply (needs.refused z)) q

    module _ (z : reply ≡ 0) where
      all : Lacks (rest_of lb (s.number + 1) [] work) (length_of image 1 * many + length_of end 0) (many + 1)
      all = needs.lacked z

      head-is : size (LB lb) ≡ 60
      unfolding size length_of kind_of carried save_of begin_of
      head-is = refl

      -- the bytes that follow the LB
      abbrev rest : ℕ
      rest = 272 * many + 16

      rest-is : length_of image 1 * many + length_of end 0 ≡ rest
      unfolding length_of
      rest-is = refl

      begun-is : meant ≡ begun_with given_to s lb rest (many + 1)
      begun-is = save-with given_to s lb (opened-is false shut) all.recs all.are ∙ rw (all.bytes, all.count, rest-is)

      module _ (v u f : ℕ) where
        pub put-room : (v ≡ 6) × (u ≡ used) × (f ≡ forced) → 8192 < w.at + 60 + rest → left v [] (lent u f work [] log bytes) ≡ meant
        put-room q h = refused_as given_to 6 v u f meant (begun-is ∙ begun-room given_to s lb rest (many + 1) (omega (arith, h, head-is, at-is))) q

        module _ (h : w.at + 60 + rest ≤ 8192) where
          pub put-number : (v ≡ 7) × (u ≡ used) × (f ≡ forced) → 4294967295 < w.number.0 + 1 + (many + 1) → left v [] (lent u f work [] log bytes) ≡ meant
          put-number q m =
              refused_as given_to 7 v u f meant
              (begun-is ∙ begun-number given_to s lb rest (many + 1) (omega (arith, h, head-is, at-is)) (omega (arith, m, number_is))) q

          pub put_last : (v ≡ 7) × (u ≡ used) × (f ≡ forced) → w.number.0 + 1 + (many + 1) ≤ 4294967295 → 4294967295 ≤ w.unit.0
              → left v [] (lent u f work [] log bytes) ≡ meant
          put_last q m l =
              refused_as given_to 7 v u f meant
              (begun-is ∙ begun-unit given_to s lb rest (many + 1) (omega (arith, h, head-is, at-is)) (omega (arith, m, number_is)) (omega (arith, l, unit-next))) q

      pub put-begun : w.at + 60 + rest ≤ 8192 → w.number.0 + 1 + (many + 1) ≤ 4294967295 → w.unit.0 < 4294967295
          → (at : ℕ) → at ≡ w.at + 60 → (l : List ℕ) → l ≡ put w.at (encode (w.number.0 + 1) (LB (save_of (w.unit.0 + 1) kind r))) log
          → left 0 [] (lent at forced work [] l bytes) ≡ meant
      put-begun h m x at i l q =
          rw (i, q, ← head-is, at-is, number_is, shown-unit w s e)
          (sym
          (begun-is
          ∙ begun-begins given_to s lb rest (many + 1) (omega (arith, h, head-is, at-is)) (omega (arith, m, number_is)) (omega (arith, x, unit-next))))

-- ---- the record of a delete

pub deleting-is! : (key : ℕ) (r : List ℕ) → r ≡ put 2 (bytes4 key) (114 ∷ 99 ∷ 0 ∷ 0 ∷ 0 ∷ 0 ∷ 0 ∷ 0 ∷ 0 ∷ 0 ∷ 0 ∷ 0 ∷ 0 ∷ 0 ∷ 0 ∷ 0 ∷ []) → r ≡ deleting key
unfolding deleting put bytes4 zeroes
deleting-is! key r e = e

pub deleting-long! : (key : ℕ) (r : List ℕ) → r ≡ deleting key → length r ≡ 16
unfolding deleting bytes4 zeroes
deleting-long! key r e = ap length e

-- ---- the mark of a lent record

mark_of : (r : List ℕ) → Bytes r → le2 r 0 ≡ 25458 → ascend_records 0 (r ∷ []) ≡ true
unfolding le2
mark_of r b e =
    ascend-of 114 99 0 r []
    (record { one = omega (arith, e, b 0, b 1); two = omega (arith, e, b 0, b 1); low = omega arith; after = unfold ascend in refl })

mark-is : (r : List ℕ) → ascend_records 0 (r ∷ []) ≡ true → le2 r 0 ≡ 25458
unfolding le2
mark-is r e = let f : First 114 99 0 r [] = ascend-facts 114 99 0 r [] e in omega (arith, f.one, f.two)

mark-not : (r : List ℕ) (b : Bool) → ascend_records 0 (r ∷ []) ≡ b → (le2 r 0 ≡ 25458 → ⊥) → b ≡ false
mark-not r true e h = absurd (h (mark-is r e))
mark-not r false e h = refl

-- ---- begin put

module _ (used forced : ℕ) (work log r : List ℕ) where
  abbrev put-lent : Lent
  put-lent = lent used forced work [] log r

  abbrev put-body : Log → Left
  put-body g =
      need (eqb (length r) 16) (refused 0 12 put-lent)
      (need (ascend_records 0 (r ∷ [])) (refused 0 16 put-lent) (begin_save put-lent (at_end g) (save_of ((at_end g).unit + 1) 4 r)))

  pub put_is : begin_put put-lent ≡ need (two_sized put-lent) (refused 0 1 put-lent) (given (known put-lent) (refused 0 2 put-lent) put-body)
  unfolding begin_put
  put_is = refl

  module _ (a : length work ≡ 16384) (b : length log ≡ 8192) (t : Scan) (e : t ≡ scanned forced log) (k : knows t used ≡ true) where
    abbrev put-past : begin_put put-lent ≡ put-body (knows-yes put-lent t e k).log
    put-past = begin-past used forced work log r (begin_put put-lent) put-body put_is a b t e k

    pub put-long : (v u f : ℕ) → Kept used forced work log r v u f 12 → (length r ≡ 16 → ⊥) → got used forced work log r v u f ≡ begin_put put-lent
    put-long v u f q h =
        refused_as put-lent 12 v u f (begin_put put-lent) (put-past ∙ need-false _ (refused 0 12 put-lent) _ (ne_eqb (length r) 16 h)) q

    module _ (h : length r ≡ 16) (m : ℕ) (i : m ≡ le2 r 0) where
      pub put-mark : (v u f : ℕ) → Kept used forced work log r v u f 16 → (m ≡ 25458 → ⊥) → got used forced work log r v u f ≡ begin_put put-lent
      put-mark v u f q n =
          refused_as put-lent 16 v u f (begin_put put-lent)
          (put-past ∙ need-true _ (refused 0 12 put-lent) _ (eq-eqb (length r) 16 h)
          ∙ need-false _ (refused 0 16 put-lent) _ (mark-not r (ascend_records 0 (r ∷ [])) refl (λ z. n (i ∙ z)))) q

      pub put-goes : m ≡ 25458 → Bytes r → (x : Left) → ((s : State) → t.walk ≡ shown s → x ≡ begin_save put-lent s (save_of (s.unit + 1) 4 r)) → x ≡ begin_put put-lent
      put-goes n y x f =
          let g : Knows put-lent t = knows-yes put-lent t e k in
          f (at_end g.log) g.walk
          ∙ sym
          (put-past ∙ need-true _ (refused 0 12 put-lent) _ (eq-eqb (length r) 16 h)
          ∙ need-true _ (refused 0 16 put-lent) _ (mark_of r y (sym i ∙ n)))

-- ---- begin delete

module _ (used forced : ℕ) (work log : List ℕ) (key : ℕ) where
  abbrev del-lent : Lent
  del-lent = lent used forced work [] log []

  abbrev del-body : Log → Left
  del-body g = begin_save del-lent (at_end g) (save_of ((at_end g).unit + 1) 5 (deleting key))

  pub delete-is : begin_delete key del-lent ≡ need (two_sized del-lent) (refused 0 1 del-lent) (given (known del-lent) (refused 0 2 del-lent) del-body)
  unfolding begin_delete
  delete-is = refl

  pub delete-goes : (a : length work ≡ 16384) (b : length log ≡ 8192) (t : Scan) (e : t ≡ scanned forced log) (k : knows t used ≡ true) (r : List ℕ) → r ≡ deleting key
      → (x : Left) → ((s : State) → t.walk ≡ shown s → x ≡ begin_save del-lent s (save_of (s.unit + 1) 5 r)) → x ≡ begin_delete key del-lent
  delete-goes a b t e k r i x f =
      let g : Knows del-lent t = knows-yes del-lent t e k in
      f (at_end g.log) g.walk ∙ ap (λ (y : List ℕ). begin_save del-lent (at_end g.log) (save_of ((at_end g.log).unit + 1) 5 y)) i
      ∙ sym (begin-past used forced work log [] (begin_delete key del-lent) del-body delete-is a b t e k)
