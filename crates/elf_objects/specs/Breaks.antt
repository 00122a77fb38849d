-- What it means to break a rule, and which break is the first.
use Rattle.std.specs.Prelude.{ℕ, suc, min, Bool, List, [], ◌∷◌, map, Option, Some, None, if◌then◌else◌}
use Rattle.std.specs.List.{range_with_len}
use Rattle.elf_objects.specs.declared.bad_elf.BadElf.{BadElf}

-- a rule is tested at places of the file: such a place, and whether the rule is broken there
abbrev pub Test : Type 0
Test = ℕ × Bool

-- the tests of the rows of a table, by their places and by whether each breaks the rule
abbrev pub row_tests : (ℕ → ℕ) → (ℕ → Bool) → ℕ → List Test
row_tests place fails count = map (λ row. (place row, fails row)) (range_with_len 0 count)

-- the lesser of two places, where there are two
abbrev pub earlier : Option ℕ → Option ℕ → Option ℕ
earlier None other = other
earlier (Some place) None = Some place
earlier (Some place) (Some other) = Some (min place other)

-- the least place where a rule is broken, if it is
abbrev pub first_place : List Test → Option ℕ
first_place [] = None
first_place (test ∷ tests) = if test.1 then earlier (Some test.0) (first_place tests) else first_place tests

-- the break of a rule at a place, or else another
abbrev pub break_or : ℕ → Option ℕ → Option BadElf → Option BadElf
break_or rule None other = other
break_or rule (Some place) other = Some (record { offset = place; rule = rule })

-- of rules whose numbers go on from this one: the first that is broken, at the least place
abbrev pub first_broken : ℕ → List (List Test) → Option BadElf
first_broken rule [] = None
first_broken rule (tests ∷ rules) = break_or rule (first_place tests) (first_broken (suc rule) rules)
