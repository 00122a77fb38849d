-- What the questions of a command come to, and that what is accepted is taken.
use Rattle.std.proofs.Common.{◌≡◌, ℕ, ◌<◌, ◌≤◌, true, false, Bool, not, nat_lt, nat_le, ◌==◌, ◌&&◌, ◌||◌, List, [], ◌∷◌, length, Option, Some, None, is_some, refl, ap, subst, if◌then◌else◌, arith}
use Rattle.std.specs.List.{list_any, position, position_or_len}
use Rattle.std.specs.Option.{unwrap_or}
use Rattle.std.specs.Prelude.{slice_get, slice_index_or}
use Rattle.std.proofs.lemmas.Bool.Decides.{nat_tests}
use Rattle.std.proofs.lemmas.Grind.{common_steps}
use Rattle.std.proofs.lemmas.Option.{slice_get_read}
use Rattle.chain_order.specs.declared.member.Kind.{Kind}
use Rattle.filter_rules.specs.Rules.{has_row, has_rule}
use Rattle.filter_rules.specs.declared.rule.RuleKey.{RuleKey}
use Rattle.object_load.specs.declared.program.Program.{Program}
use Rattle.xdp_state.specs.Answer.{answer, at_interface, attach_answer, clear_answer, dump_answer, dump_off_answer, filter_answer, filter_off_answer, first_of, has_asked, lacks_feature, load_answer, load_change, loaded_at, object_answer, off_answer, off_change, program_answer, rule_fits, set_answer, status_answer, is_asked}
use Rattle.xdp_state.specs.Book.{Book, fits, has_own_flags, takes}
use Rattle.xdp_state.specs.Dump.{dump_on}
use Rattle.xdp_state.specs.Interfaces.{has_name, is_declared, interface_named}
use Rattle.xdp_state.specs.Library.{filter_name, rank}
use Rattle.xdp_state.specs.Members.{chain_on, differs, filter_number, has_filter, has_filter_elsewhere, has_filter_somewhere, is_filter, mode_on}
use Rattle.xdp_state.specs.declared.change.Change.{Change}
use Rattle.xdp_state.specs.declared.change.Change.TheVariants.{Attach, Detach, SetRule, ClearRule, DumpOn, DumpOff}
use Rattle.xdp_state.specs.declared.command.Command.{Command}
use Rattle.xdp_state.specs.declared.command.Command.TheVariants.{LoaderLoad, LoaderUnload, LoaderStatus, FilterLoad, FilterUnload, FilterRule, FilterStatus, DumpStart, DumpStop}
use Rattle.xdp_state.specs.declared.command.LoadWords.{LoadWords}
use Rattle.xdp_state.specs.declared.interface.Interface.{Interface}
use Rattle.xdp_state.specs.declared.judgement.Judgement.{Judgement}
use Rattle.xdp_state.specs.declared.judgement.Judgement.TheVariants.{Accepted, Shown}
use Rattle.xdp_state.specs.declared.judgement.Reason.{Reason}
use Rattle.xdp_state.specs.declared.judgement.Reason.TheVariants.{NoInterface, ModeDiffers, ChainFull, NothingLoaded, NoSuchId, FilterThere, FilterNotThere, FeatureMissing, RulesFull, NoSuchRule, DumpThere, DumpNotThere}
use Rattle.xdp_state.specs.declared.library.Library.{Library}
use Rattle.xdp_state.specs.declared.library.ObjectRow.{ObjectRow}
use Rattle.xdp_state.specs.declared.library.Loaded.{Loaded}
use Rattle.xdp_state.specs.declared.library.Loaded.TheVariants as loaded
use Rattle.xdp_state.specs.declared.mode.Mode.{Mode}

-- an interface is declared where its place is one of the list
place-any : {X : Type 0} (p : X → Bool) (xs : List X) → nat_lt (position_or_len p xs) (length xs) ≡ list_any p xs
place-any p [] = refl
place-any p (x ∷ xs) = grind (arith, common_steps, nat_tests, place-any p xs)

pub place-none : (interfaces : List Interface) (name : List ℕ) → None ≡ position (has_name name) interfaces → is_declared interfaces name ≡ false
place-none interfaces name is = grind (arith, nat_tests, place-any (has_name name) interfaces)

pub place-some : (interfaces : List Interface) (name : List ℕ) (i : ℕ) → Some i ≡ position (has_name name) interfaces → record { any : is_declared interfaces name ≡ true; at : interface_named interfaces name ≡ i }
place-some interfaces name i is = record {
  any = grind (arith, nat_tests, place-any (has_name name) interfaces);
  at = grind (arith, nat_tests);
}

pub ruleset places = (place-none, place-some)

place-below : {X : Type 0} (p : X → Bool) (xs : List X) → list_any p xs ≡ true → unwrap_or (position p xs) (length xs) < length xs
place-below p xs any = grind (arith, nat_tests, place-any p xs)

-- where a change is accepted no objection held
record Passed (holds : Bool) (rest : Judgement) (change : Change) : Type 0 where
  none : holds ≡ false
  later : rest ≡ Accepted change

passed : (holds : Bool) (reason : Reason) (rest : Judgement) (change : Change) → first_of (record { holds = holds; reason = reason } ∷ []) rest ≡ Accepted change → Passed holds rest change
passed true reason rest change is = absurd cc
passed false reason rest change is = record { none = refl; later = is }

-- neither of two objections
record PassedTwo (first second : Bool) (rest : Judgement) (change : Change) : Type 0 where
  one : first ≡ false
  other : second ≡ false
  later : rest ≡ Accepted change

passed_two : (a b : Bool) (r s : Reason) (rest : Judgement) (change : Change) → first_of (record { holds = a; reason = r } ∷ record { holds = b; reason = s } ∷ []) rest ≡ Accepted change → PassedTwo a b rest change
passed_two true b r s rest change is = absurd cc
passed_two false true r s rest change is = absurd cc
passed_two false false r s rest change is = record { one = refl; other = refl; later = is }

accepted_same : (a b : Change) → Accepted a ≡ Accepted b → a ≡ b
accepted_same a b same = cc

named-below : (library : Library) (name : List ℕ) → length library.interfaces ≤ 8 → not (is_declared library.interfaces name) ≡ false → nat_lt (interface_named library.interfaces name) 8 ≡ true
named-below library name few declared =
    let any : is_declared library.interfaces name ≡ true = grind (arith, nat_tests) in
    let below : interface_named library.interfaces name < length library.interfaces = place-below (has_name name) library.interfaces any in
    grind (arith, nat_tests)

-- what is accepted for an interface is accepted for one of eight
record AtInterface (library : Library) (name : List ℕ) (judged : ℕ → Judgement) (change : Change) : Type 0 where
  below : nat_lt (interface_named library.interfaces name) 8 ≡ true
  there : judged (interface_named library.interfaces name) ≡ Accepted change

at_interface-accepted : (library : Library) (name : List ℕ) (judged : ℕ → Judgement) (change : Change) → length library.interfaces ≤ 8 → at_interface library name judged ≡ Accepted change → AtInterface library name judged change
at_interface-accepted library name judged change few is =
    let h = passed (not (is_declared library.interfaces name)) NoInterface (judged (interface_named library.interfaces name)) change is in
    record { below = named-below library name few h.none; there = h.later }

-- an interface that takes a member of a mode
record Takes (book : Book) (interface : ℕ) (mode : Mode) (asked change : Change) : Type 0 where
  fits : differs (mode_on book.members interface) mode ≡ false
  room : nat_lt (length (chain_on book.members interface)) 10 ≡ true
  is : asked ≡ change

attach-accepted : (book : Book) (interface : ℕ) (mode : Mode) (asked change : Change) → attach_answer book interface mode asked ≡ Accepted change → Takes book interface mode asked change
attach-accepted book interface mode asked change is =
    let h = passed_two (differs (mode_on book.members interface) mode) (nat_le 10 (length (chain_on book.members interface))) ModeDiffers ChainFull (Accepted asked) change is in
    record { fits = h.one; room = (let full = h.other in grind (arith, nat_tests)); is = accepted_same asked change h.later }

attach-taken : (book : Book) (interface priority rank mask : ℕ) (k : Kind) (mode : Mode) (change : Change) → nat_lt book.count 65536 ≡ true → nat_lt interface 8 ≡ true → (is_filter k && has_filter (chain_on book.members interface)) ≡ false
    → attach_answer book interface mode (Attach interface k priority rank mask mode) ≡ Accepted change → takes book change ≡ true
attach-taken book interface priority rank mask k mode change count below alone is =
    let h = attach-accepted book interface mode (Attach interface k priority rank mask mode) change is in
    subst (λ change. takes book change ≡ true) h.is (rw (count, below, h.room, h.fits, alone) refl)

program-taken : (library : Library) (book : Book) (interface : ℕ) (words : LoadWords) (place : ℕ) (o : Option Program) (change : Change) → nat_lt book.count 65536 ≡ true → nat_lt interface 8 ≡ true → program_answer library book interface words place o ≡ Accepted change → takes book change ≡ true
program-taken library book interface words place None change count below is = absurd cc
program-taken library book interface words place (Some program) change count below is =
    attach-taken book interface _ (rank library program.name) _ _ words.mode change count below refl is

object-taken : (library : Library) (book : Book) (interface : ℕ) (words : LoadWords) (o : Option Loaded) (change : Change) → nat_lt book.count 65536 ≡ true → nat_lt interface 8 ≡ true → object_answer library book interface words o ≡ Accepted change → takes book change ≡ true
object-taken library book interface words None change count below is = absurd cc
object-taken library book interface words (Some (loaded.Refused refusal)) change count below is = absurd cc
object-taken library book interface words (Some (loaded.Programs programs)) change count below is =
    let place : ℕ = unwrap_or (position (is_asked words) programs) (length programs) in
    program-taken library book interface words place (slice_get programs place) change count below is

load-taken : (library : Library) (book : Book) (words : LoadWords) (change : Change) → nat_lt book.count 65536 ≡ true → length library.interfaces ≤ 8 → load_answer library book words ≡ Accepted change → takes book change ≡ true
load-taken library book words change count few is =
    let h = at_interface-accepted library words.interface (λ interface. object_answer library book interface words (loaded_at library words.object)) change few is in
    object-taken library book (interface_named library.interfaces words.interface) words (loaded_at library words.object) change count h.below h.there

off-change : (book : Book) (interface : ℕ) (id : Option ℕ) (change : Change) → nat_lt book.count 65536 ≡ true → nat_lt interface 8 ≡ true → off_change interface id ≡ change → takes book change ≡ true
off-change book interface None change count below is = subst (λ change. takes book change ≡ true) is (rw (count, below) refl)
off-change book interface (Some id) change count below is = subst (λ change. takes book change ≡ true) is (rw (count, below) refl)

off-taken : (library : Library) (book : Book) (name : List ℕ) (id : Option ℕ) (change : Change) → nat_lt book.count 65536 ≡ true → length library.interfaces ≤ 8 → at_interface library name (λ interface. off_answer book interface id) ≡ Accepted change → takes book change ≡ true
off-taken library book name id change count few is =
    let h = at_interface-accepted library name (λ interface. off_answer book interface id) change few is in
    let interface : ℕ = interface_named library.interfaces name in
    let chain = chain_on book.members interface in
    let two = passed_two (length chain == 0) (not (has_asked chain id)) NothingLoaded NoSuchId (Accepted (off_change interface id)) change h.there in
    off-change book interface id change count h.below (accepted_same (off_change interface id) change two.later)

status-taken : (library : Library) (name : Option (List ℕ)) (change : Change) → status_answer library name ≡ Accepted change → ⊥
status-taken library None change is = cc
status-taken library (Some name) change is =
    let h = passed (not (is_declared library.interfaces name)) NoInterface Shown change is in
    let shown = h.later in cc

filter-taken : (library : Library) (book : Book) (name : List ℕ) (k : Kind) (mode : Mode) (change : Change) → nat_lt book.count 65536 ≡ true → length library.interfaces ≤ 8 → at_interface library name (filter_answer library book k mode) ≡ Accepted change → takes book change ≡ true
filter-taken library book name k mode change count few is =
    let h = at_interface-accepted library name (filter_answer library book k mode) change few is in
    let interface : ℕ = interface_named library.interfaces name in
    let one = passed (has_filter (chain_on book.members interface)) FilterThere (attach_answer book interface mode (Attach interface k 10 (rank library filter_name) 4 mode)) change h.there in
    attach-taken book interface 10 (rank library filter_name) 4 k mode change count h.below (none_both (is_filter k) _ one.none) one.later
  where
    none_both : (a b : Bool) → b ≡ false → (a && b) ≡ false
    none_both true b h = h
    none_both false b h = refl

filter_off-taken : (library : Library) (book : Book) (name : List ℕ) (keep : Bool) (change : Change) → nat_lt book.count 65536 ≡ true → length library.interfaces ≤ 8 → at_interface library name (filter_off_answer book keep) ≡ Accepted change → takes book change ≡ true
filter_off-taken library book name keep change count few is =
    let h = at_interface-accepted library name (filter_off_answer book keep) change few is in
    let interface : ℕ = interface_named library.interfaces name in
    let chain = chain_on book.members interface in
    let asked : Change = Detach interface (filter_number chain) (not keep && not (has_filter_elsewhere book.members interface)) in
    let one = passed (not (has_filter chain)) FilterNotThere (Accepted asked) change h.there in
    let below = h.below in
    subst (λ change. takes book change ≡ true) (accepted_same asked change one.later) (rw (count, below) refl)

set-taken : (book : Book) (key : RuleKey) (flags : ℕ) (change : Change) → nat_lt book.count 65536 ≡ true → has_own_flags key flags ≡ true → set_answer book key flags ≡ Accepted change → takes book change ≡ true
set-taken book key flags change count own is =
    let h = three (not (has_filter_somewhere book.members)) (lacks_feature book.members key.kind flags) (not (has_row book.rows key) && nat_le 4096 (length book.rows)) FilterNotThere FeatureMissing RulesFull (SetRule key flags) change is in
    let place : (has_row book.rows key || nat_lt (length book.rows) 4096) ≡ true = (let full = h.none in grind (arith, nat_tests)) in
    subst (λ change. takes book change ≡ true) (accepted_same (SetRule key flags) change h.later) (rw (count, own, place) refl)
  where
    three : (a b c : Bool) (r s t : Reason) (asked change : Change) → first_of (record { holds = a; reason = r } ∷ record { holds = b; reason = s } ∷ record { holds = c; reason = t } ∷ []) (Accepted asked) ≡ Accepted change → Passed c (Accepted asked) change
    three true b c r s t asked change is = absurd cc
    three false true c r s t asked change is = absurd cc
    three false false c r s t asked change is = passed c t (Accepted asked) change is

clear-taken : (book : Book) (key : RuleKey) (flags : ℕ) (change : Change) → nat_lt book.count 65536 ≡ true → has_own_flags key flags ≡ true → clear_answer book key flags ≡ Accepted change → takes book change ≡ true
clear-taken book key flags change count own is =
    let two = passed_two (not (has_filter_somewhere book.members)) (not (has_rule book.rows key flags)) FilterNotThere NoSuchRule (Accepted (ClearRule key flags)) change is in
    subst (λ change. takes book change ≡ true) (accepted_same (ClearRule key flags) change two.later) (rw (count, own) refl)

dump-taken : (library : Library) (book : Book) (name : List ℕ) (setting : ℕ) (change : Change) → nat_lt book.count 65536 ≡ true → length library.interfaces ≤ 8 → at_interface library name (dump_answer book setting) ≡ Accepted change → takes book change ≡ true
dump-taken library book name setting change count few is =
    let h = at_interface-accepted library name (dump_answer book setting) change few is in
    let interface : ℕ = interface_named library.interfaces name in
    let one = passed (is_some (dump_on book.dumps interface)) DumpThere (Accepted (DumpOn interface setting)) change h.there in
    let below = h.below in
    let free = one.none in
    subst (λ change. takes book change ≡ true) (accepted_same (DumpOn interface setting) change one.later) (rw (count, below, free) refl)

dump_off-taken : (library : Library) (book : Book) (name : List ℕ) (change : Change) → nat_lt book.count 65536 ≡ true → length library.interfaces ≤ 8 → at_interface library name (dump_off_answer book) ≡ Accepted change → takes book change ≡ true
dump_off-taken library book name change count few is =
    let h = at_interface-accepted library name (dump_off_answer book) change few is in
    let interface : ℕ = interface_named library.interfaces name in
    let one = passed (not (is_some (dump_on book.dumps interface))) DumpNotThere (Accepted (DumpOff interface)) change h.there in
    let below = h.below in
    subst (λ change. takes book change ≡ true) (accepted_same (DumpOff interface) change one.later) (rw (count, below) refl)

pub answer-taken : (library : Library) (book : Book) (command : Command) (change : Change) → rule_fits command ≡ true → length library.interfaces ≤ 8 → answer library book command ≡ Accepted change → book.count < 65536 → takes book change ≡ true
answer-taken library book (LoaderLoad words) change fits few is room = load-taken library book words change (grind (arith, nat_tests)) few is
answer-taken library book (LoaderUnload name id) change fits few is room = off-taken library book name id change (grind (arith, nat_tests)) few is
answer-taken library book (LoaderStatus name) change fits few is room = absurd (status-taken library name change is)
answer-taken library book (FilterLoad name mode policy features) change fits few is room = filter-taken library book name _ mode change (grind (arith, nat_tests)) few is
answer-taken library book (FilterUnload name keep) change fits few is room = filter_off-taken library book name keep change (grind (arith, nat_tests)) few is
answer-taken library book (FilterRule key flags true) change fits few is room = clear-taken book key flags change (grind (arith, nat_tests)) fits is
answer-taken library book (FilterRule key flags false) change fits few is room = set-taken book key flags change (grind (arith, nat_tests)) fits is
answer-taken library book FilterStatus change fits few is room = absurd cc
answer-taken library book (DumpStart name setting) change fits few is room = dump-taken library book name setting change (grind (arith, nat_tests)) few is
answer-taken library book (DumpStop name) change fits few is room = dump_off-taken library book name change (grind (arith, nat_tests)) few is

-- the interface of a name that is declared
found_case : (b : Bool) (named i : ℕ) (judged : ℕ → Judgement) → Some i ≡ (if b then Some named else None) → first_of (record { holds = not b; reason = NoInterface } ∷ []) (judged named) ≡ judged i
found_case true named i judged is = let same : named ≡ i = cc in ap judged same
found_case false named i judged is = absurd cc

pub found_at : (library : Library) (name : List ℕ) (judged : ℕ → Judgement) (i : ℕ) → Some i ≡ (if is_declared library.interfaces name then Some (interface_named library.interfaces name) else None) → at_interface library name judged ≡ judged i
found_at library name judged i is = found_case (is_declared library.interfaces name) (interface_named library.interfaces name) i judged is

-- a load of the first program that is asked for
asked-within : {X : Type 0} (p : X → Bool) (xs : List X) (place : ℕ) → Some place ≡ position p xs → place < length xs
asked-within p xs place is = grind (arith, nat_tests)

pub asked-there : (words : LoadWords) (programs : List Program) (place : ℕ) (program : Program) → Some place ≡ position (is_asked words) programs → program ≡ slice_index_or programs place program → slice_get programs place ≡ Some program
asked-there words programs place program asked at = slice_get_read programs (length programs) place program refl (asked-within (is_asked words) programs place asked) at

pub loads : (library : Library) (book : Book) (interface : ℕ) (words : LoadWords) (row : ObjectRow) (programs : List Program) (place : ℕ) (program : Program) → slice_get library.objects words.object ≡ Some row → row.loaded ≡ loaded.Programs programs
    → Some place ≡ position (is_asked words) programs → program ≡ slice_index_or programs place program
    → object_answer library book interface words (loaded_at library words.object) ≡ attach_answer book interface words.mode (load_change library interface words place program)
loads library book interface words row programs place program here is asked at = rw (here, is, ← asked, asked-there words programs place program asked at) refl
