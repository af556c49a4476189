-- What list writes into the lent room are bytes, where the work pages are. Assumes nothing.
use Prim.Native.Nat.{ℕ, zero, suc}
use mathlib.Core.List.{List, [], ◌∷◌}
use lib.ListN.{get_or}
use Rattle.field.specs.Bytes.{Bytes}
use Rattle.field.proofs.Byte.{bytes-nil, bytes-put}
use Rattle.page.specs.Each.{Each}
use Rattle.page.specs.Pages.{pages}
use Rattle.page.proofs.Kept.{bytes-rows}
use Rattle.page.proofs.Rows.{each_append, each_take, bytes-rows_of, bytes-joined}
use Rattle.tree.specs.Tree.{under, below, all_records}
use Rattle.tree.specs.Answer.{room_for, in_bounds, written}
use Rattle.tree.proofs.Listing.{each-between}

bytes-at : {rs : List (List ℕ)} (i : ℕ) → Each Bytes rs → Bytes (get_or rs i [])
bytes-at zero Each.nil = bytes-nil
bytes-at (suc i) Each.nil = bytes-nil
bytes-at zero (Each.cons h p) = h
bytes-at (suc i) (Each.cons h p) = bytes-at i p

bytes_below : (sz : ℕ) (ps es : List (List ℕ)) → Each Bytes ps → Each Bytes (below sz ps es)
unfolding below under
bytes_below sz ps [] h = Each.nil
bytes_below sz ps (e ∷ es) h = each_append (bytes-rows sz (under ps e) (bytes-at _ h)) (bytes_below sz ps es h)

pub bytes-written : (low high : ℕ) (w out : List ℕ) → Bytes w → Bytes out → Bytes (written (in_bounds low high w) out)
unfolding written in_bounds all_records pages
bytes-written low high w out b h =
    bytes-put 0 _ out
    (bytes-joined _ (each_take (room_for out) (each-between low high (all_records (pages w)) (bytes_below 16 (pages w) _ (bytes-rows_of 256 64 w b))))) h
