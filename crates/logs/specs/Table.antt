-- Document 01: "The table of record kinds gives each mark its fixed length". The kinds in the order of the code's table. Assumes nothing.
use Rattle.std.specs.Prelude.{ℕ, List, [], ◌∷◌, get_or}
use Rattle.logs.specs.Record.{letter, Kind, check, begin, out, into, modify, end, image}

-- LC LB LO LI LM LE LG
unfoldable pub kinds : List Kind
kinds = check ∷ begin ∷ out ∷ into ∷ modify ∷ end ∷ image ∷ []

-- the kind by its place in the table
unfoldable pub kind_at : ℕ → Kind
kind_at k = get_or kinds k check

-- the table's numbers: four a kind, its mark, its fixed length, the bytes of each record or image carried
unfoldable pub tabled : List Kind → List ℕ
tabled [] = []
tabled (c ∷ cs) = letter ∷ c.sign ∷ c.fixed ∷ c.each ∷ tabled cs
