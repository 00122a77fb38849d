-- The table's lines, one after the other.
use Rattle.std.proofs.Common.{◌≡◌, ℕ, suc, ◌+◌, ◌≤◌, length, List, [], ◌∷◌, ◌++◌, drop, get_or, Some, ◌∙◌, ap, arith, drop-cons}
use Rattle.std.specs.Prelude.{find, slice_get}
use Rattle.std.proofs.lemmas.List.{drop_all}
use Rattle.std.proofs.lemmas.Option.{slice_get_within, get_or_from_slice_get}
use Rattle.filter_rules.specs.declared.rule.RuleRow.{RuleRow}
use Rattle.chain_order.specs.declared.member.Member.{Member}
use Rattle.xdp_state.specs.Book.{Book}
use Rattle.xdp_state.specs.Hits.{hits_in}
use Rattle.xdp_state.specs.Members.{Attached, chain_on, is_filter}
use Rattle.xdp_state.specs.declared.hits.HitRow.{HitRow}
use Rattle.xdp_state.specs.declared.interface.Interface.{Interface}
use Rattle.xdp_state.specs.declared.library.Library.{Library}
use Rattle.script_text.specs.Chains as chains
use Rattle.script_text.specs.Table.{row_line, rows_text, member_line, filters_from}

drop_at : {X : Type 0} (xs : List X) (i : ℕ) (x : X) → slice_get xs i ≡ Some x → drop i xs ≡ x ∷ drop (i + 1) xs
drop_at xs i x is =
    let next : suc i ≡ i + 1 = omega arith in
    drop-cons xs i x (slice_get_within xs i x is) ∙ ap (λ n. get_or xs i x ∷ drop n xs) next
    ∙ ap (λ y. y ∷ drop (i + 1) xs) (get_or_from_slice_get xs i x x is)

-- the row at a place, and those behind it
pub rows_text-drop : (hits : List HitRow) (rows : List RuleRow) (place : ℕ) (row : RuleRow) → slice_get rows place ≡ Some row
    → rows_text hits (drop place rows) ≡ row_line row (hits_in hits row.number) ++ rows_text hits (drop (place + 1) rows)
rows_text-drop hits rows place row here = ap (rows_text hits) (drop_at rows place row here)

-- behind the last row
pub rows_text-none : (hits : List HitRow) (rows : List RuleRow) (place : ℕ) → length rows ≤ place → rows_text hits (drop place rows) ≡ []
rows_text-none hits rows place past = ap (rows_text hits) (drop_all place rows past)

-- the interface at a place, and those behind it
pub filters_from-drop : (members : List Attached) (interfaces : List Interface) (place : ℕ) (interface : Interface) → slice_get interfaces place ≡ Some interface
    → filters_from members place (drop place interfaces)
    ≡ member_line interface.name (find (λ member. is_filter member.kind) (chain_on members place)) ++ filters_from members (place + 1) (drop (place + 1) interfaces)
filters_from-drop members interfaces place interface here = ap (filters_from members place) (drop_at interfaces place interface here)

-- behind the last interface
pub filters_from-none : (members : List Attached) (interfaces : List Interface) (place : ℕ) → length interfaces ≤ place → filters_from members place (drop place interfaces) ≡ []
filters_from-none members interfaces place past = ap (filters_from members place) (drop_all place interfaces past)

-- the member at a place, and those behind it
pub members_text-drop : (library : Library) (members : List Member) (place : ℕ) (member : Member) → slice_get members place ≡ Some member
    → chains.members_text library (drop place members) ≡ chains.member_line library member ++ chains.members_text library (drop (place + 1) members)
members_text-drop library members place member here = ap (chains.members_text library) (drop_at members place member here)

-- behind the last member
pub members_text-none : (library : Library) (members : List Member) (place : ℕ) → length members ≤ place → chains.members_text library (drop place members) ≡ []
members_text-none library members place past = ap (chains.members_text library) (drop_all place members past)

-- the same of the interfaces with their chains
pub chains_from-drop : (library : Library) (book : Book) (place : ℕ) (interface : Interface) → slice_get library.interfaces place ≡ Some interface
    → chains.chains_from library book place (drop place library.interfaces)
    ≡ chains.interface_text library book place interface.name ++ chains.chains_from library book (place + 1) (drop (place + 1) library.interfaces)
chains_from-drop library book place interface here = ap (chains.chains_from library book place) (drop_at library.interfaces place interface here)

pub chains_from-none : (library : Library) (book : Book) (place : ℕ) → length library.interfaces ≤ place
    → chains.chains_from library book place (drop place library.interfaces) ≡ []
chains_from-none library book place past = ap (chains.chains_from library book place) (drop_all place library.interfaces past)
