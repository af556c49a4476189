-- The page that each change makes once its tests have passed; an entry is named by its place. Assumes nothing.
use Rattle.std.specs.Prelude.{ℕ, List, [], ◌++◌, get_or}
use Rattle.page.specs.Page.{key_of, to_page, spare, entries, records, made, base, leaf, empty}
use Rattle.page.specs.Change.{point_to, without}

-- an empty page
abbrev pub made_empty : (n : ℕ) → List ℕ → List ℕ
made_empty n pg = made empty.sign n (spare pg) []

-- a leaf page with the records rs behind its own
abbrev pub made_longer : (n : ℕ) (rs : List (List ℕ)) → List ℕ → List ℕ
made_longer n rs pg = made leaf.sign n (spare pg) (records pg ++ rs)

-- a base page whose entry i points to the page new
abbrev pub made_pointing : (n i new : ℕ) → List ℕ → List ℕ
made_pointing n i new pg =
    made base.sign n (spare pg) (point_to (key_of (get_or (entries pg) i [])) (to_page (get_or (entries pg) i [])) new (entries pg))

-- a base page without its entry i
abbrev pub made_shorter : (n i : ℕ) → List ℕ → List ℕ
made_shorter n i pg = made base.sign n (spare pg) (without (key_of (get_or (entries pg) i [])) (to_page (get_or (entries pg) i [])) (entries pg))
