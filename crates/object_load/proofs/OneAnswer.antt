-- The bytes of an object have one answer.
use Rattle.std.proofs.Common.{◌≡◌, ℕ, ◌<◌, List, take, Option, Some, None, Result, Ok, Err, refl, sym, ap, ◌∙◌, subst, inl, inr, arith}
use Rattle.std.specs.Prelude.{codes}
use Rattle.std.specs.List.{slice_get}
use Rattle.std.proofs.lemmas.Bool.{cases_eq, cases_lt}
use Rattle.bpf_insn.specs.declared.decoding.DecodeEnd.TheVariants.{BadInsn}
use Rattle.bpf_insn.specs.declared.insn.Insn.{Insn}
use Rattle.bpf_insn.specs.Code.{Decodes}
use Rattle.bpf_insn.proofs.Splits.{Gives-decoded}
use Rattle.btf_types.specs.TypeTable.{TypeTable}
use Rattle.elf_objects.specs.Object.{symbol_name}
use Rattle.elf_objects.specs.Symbol.{symbol}
use Rattle.run_config.specs.declared.config.BadConfig.{BadConfig}
use Rattle.run_config.specs.declared.named_map.NamedMap.{NamedMap}
use Rattle.run_config.specs.declared.settings.RunConfig.{RunConfig}
use Rattle.run_config.specs.Values.{Paired}
use Rattle.run_config.specs.Variables.{variables}
use Rattle.run_config.proofs.ConfigLemmas.{config-unique}
use Rattle.run_config.proofs.MapsLemmas.{apart, break-unique, maps-unique}
use Rattle.run_config.proofs.Pairing.{paired-at, paired-unique}
use Rattle.run_config.proofs.Parts.{slice_get-take}
use Rattle.object_load.specs.declared.drafts.Draft.{Draft}
use Rattle.object_load.specs.declared.drafts.Function.{Function}
use Rattle.object_load.specs.declared.program.Program.{Program}
use Rattle.object_load.specs.declared.refusal.LoadRefusal.{LoadRefusal}
use Rattle.object_load.specs.declared.refusal.LoadRefusal.TheVariants.{BadInsn as RefusedInsn, BadMap, BadReloc}
use Rattle.object_load.specs.declared.refusal.LoadEnd.{LoadEnd}
use Rattle.object_load.specs.declared.refusal.LoadEnd.TheVariants.{Refused, OutOfMemory}
use Rattle.object_load.specs.Reading.{Answers, Each, Gives, Is, Then, every, goes_on, refused, stops}
use Rattle.object_load.specs.Symbols.{object_of, programs_in}
use Rattle.object_load.specs.Types.{config_refusal, types_in, HasConfig, IsFunction}
use Rattle.object_load.specs.Maps.{with_constants, HasMaps, HasVariables, broken, nothing, read, untyped}
use Rattle.object_load.specs.Sections.{constant_sections}
use Rattle.object_load.specs.Code.{code_bytes, HasInsns, IsDraft, decoded, too_long}
use Rattle.object_load.specs.Linking.{program_of}
use Rattle.object_load.specs.Load.{Loads, LoadsFunctions, LoadsMapped, LoadsObject, LoadsSymbols, LoadsTyped}

then-unique : {A B : Type 0} {before : Result A LoadRefusal → Type 0} {next : A → Result B LoadRefusal → Type 0}
    → ((one other : Result A LoadRefusal) → before one → before other → one ≡ other)
    → ((value : A) (one other : Result B LoadRefusal) → next value one → next value other → one ≡ other)
    → (one other : Result B LoadRefusal) → Then before next one → Then before next other → one ≡ other
then-unique single singles _ _ (stops {refusal = r} h) (stops {refusal = s} k) = let e = single (Err r) (Err s) h k in cc
then-unique single singles _ _ (stops {refusal = r} h) (goes_on {value = v} k n) = let e = single (Err r) (Ok v) h k in absurd (cc)
then-unique single singles _ _ (goes_on {value = v} h m) (stops {refusal = s} k) = let e = single (Ok v) (Err s) h k in absurd (cc)
then-unique {next = next} single singles _ other (goes_on {value = v} {answer = a} h m) (goes_on {value = w} h' n) =
    let e = single (Ok v) (Ok w) h h' in
    let same : w ≡ v = cc in
    singles v a other m (subst (λ x. next x other) same n)

is-unique : {A : Type 0} (said one other : Result A LoadRefusal) → Is said one → Is said other → one ≡ other
is-unique said one other e f = e ∙ sym f

module _ {A B E : Type 0} (gives : A → Result B E → Type 0) (refusal : ℕ → E → LoadRefusal) (single : (item : A) (one other : Result B E) → gives item one → gives item other → one ≡ other) where
  given-unique : (item : A) (x y : B) → gives item (Ok x) → gives item (Ok y) → x ≡ y
  given-unique item x y g h = let e = single item (Ok x) (Ok y) g h in cc

  not_both : (item : A) (x : B) (why : E) → gives item (Ok x) → gives item (Err why) → ⊥
  not_both item x why g h = let e = single item (Ok x) (Err why) g h in cc

  -- an item that gives nothing isn't among those that gave something
  not_before : (items : List A) (place count : ℕ) (item : A) (why : E) (given : List B) → place < count → slice_get items place ≡ Some item → gives item (Err why) → Paired (λ one x. gives one (Ok x)) (take count items) given → ⊥
  not_before items place count item why given below here bad before =
      let there = paired-at place before (slice_get-take items count place below ∙ here) in
      not_both item there.0 why there.1 bad

  not_all : (items : List A) (place : ℕ) (item : A) (why : E) (given : List B) → slice_get items place ≡ Some item → gives item (Err why) → Paired (λ one x. gives one (Ok x)) items given → ⊥
  not_all items place item why given here bad each =
      let there = paired-at place each here in
      not_both item there.0 why there.1 bad

  same_first : (items : List A) (i j : ℕ) (x y : A) (why other : E) (xs ys : List B) → Paired (λ one z. gives one (Ok z)) (take i items) xs → slice_get items i ≡ Some x → gives x (Err why) → Paired (λ one z. gives one (Ok z)) (take j items) ys → slice_get items j ≡ Some y → gives y (Err other) → (i ≡ j) × (why ≡ other)
  same_first items i j x y why other xs ys before here bad before' there bad' = elim (cases_eq i j) [
    | inl e ↦
        let same : x ≡ y = let at = ap (slice_get items) e in cc in
        let end = single x (Err why) (Err other) bad (subst (λ z. gives z (Err other)) (sym same) bad') in
        (e, cc)
    | inr ne ↦ elim (cases_lt i j) [
      | inl below ↦ absurd (not_before items i j x why ys below here bad before')
      | inr above ↦ absurd (not_before items j i y other xs (omega arith) there bad' before)
    ]
  ]

  each-unique : (items : List A) (one other : Result (List B) LoadRefusal) → Each gives refusal items one → Each gives refusal items other → one ≡ other
  each-unique items _ _ (every g) (every h) = ap Ok (paired-unique given-unique g h)
  each-unique items _ _ (every {given = xs} g) (refused place item why given before here bad) = absurd (not_all items place item why xs here bad g)
  each-unique items _ _ (refused place item why given before here bad) (every {given = xs} g) = absurd (not_all items place item why xs here bad g)
  each-unique items _ _ (refused i x why xs before here bad) (refused j y other ys before' there bad') =
      let same = same_first items i j x y why other xs ys before here bad before' there bad' in
      ap (λ place. Err (refusal place why)) same.0 ∙ ap (λ end. Err (refusal j end)) same.1

has_config-unique : (types : Option TypeTable) (name : List ℕ) (one other : Result RunConfig BadConfig) → HasConfig types name one → HasConfig types name other → one ≡ other
has_config-unique None name one other e f = e ∙ sym f
has_config-unique (Some types) name one other e f = config-unique types name e f

function-unique : (file : List ℕ) (types : Option TypeTable) (index : ℕ) (one other : Result Function BadConfig) → IsFunction file types index one → IsFunction file types index other → one ≡ other
function-unique file types index (Ok f) (Ok g) (i, c) (j, d) =
    let same = has_config-unique types (symbol_name file index) (Ok f.config) (Ok g.config) c d in
    let symbols : f.symbol ≡ g.symbol = i ∙ sym j in
    let configs : f.config ≡ g.config = cc in
    ap (λ s. Ok (record { symbol = s; config = f.config })) symbols ∙ ap (λ c'. Ok (record { symbol = g.symbol; config = c' })) configs
function-unique file types index (Ok f) (Err bad) (i, c) d = let e = has_config-unique types (symbol_name file index) (Ok f.config) (Err bad) c d in absurd (cc)
function-unique file types index (Err bad) (Ok g) c (j, d) = let e = has_config-unique types (symbol_name file index) (Err bad) (Ok g.config) c d in absurd (cc)
function-unique file types index (Err bad) (Err other) c d = let e = has_config-unique types (symbol_name file index) (Err bad) (Err other) c d in cc

decodes-unique : (bytes : List ℕ) (one other : Result (List Insn) ℕ) → Decodes bytes one → Decodes bytes other → one ≡ other
decodes-unique bytes (Ok insns) other d e = sym (Gives-decoded bytes (Ok insns) d other e)
decodes-unique bytes (Err slot) other d e = sym (Gives-decoded bytes (Err (BadInsn slot)) d other e)

insns-unique : (bytes : List ℕ) (one other : Result (List Insn) ℕ) → HasInsns bytes one → HasInsns bytes other → one ≡ other
insns-unique bytes _ _ (too_long l) (too_long m) = refl
insns-unique bytes _ _ (too_long l) (decoded m d) = absurd (omega arith)
insns-unique bytes _ _ (decoded l d) (too_long m) = absurd (omega arith)
insns-unique bytes one other (decoded l d) (decoded m e) = decodes-unique bytes one other d e

draft-unique : (file : List ℕ) (function : Function) (one other : Result Draft ℕ) → IsDraft file function one → IsDraft file function other → one ≡ other
draft-unique file function (Ok a) (Ok b) (i, c) (j, d) =
    let same = insns-unique (code_bytes file (symbol file function.symbol)) (Ok a.insns) (Ok b.insns) c d in
    let functions : a.function ≡ b.function = i ∙ sym j in
    let codes : a.insns ≡ b.insns = cc in
    ap (λ f. Ok (record { function = f; insns = a.insns })) functions ∙ ap (λ xs. Ok (record { function = b.function; insns = xs })) codes
draft-unique file function (Ok a) (Err bad) (i, c) d = let e = insns-unique (code_bytes file (symbol file function.symbol)) (Ok a.insns) (Err bad) c d in absurd (cc)
draft-unique file function (Err bad) (Ok b) c (j, d) = let e = insns-unique (code_bytes file (symbol file function.symbol)) (Err bad) (Ok b.insns) c d in absurd (cc)
draft-unique file function (Err bad) (Err other) c d = let e = insns-unique (code_bytes file (symbol file function.symbol)) (Err bad) (Err other) c d in cc

variables-unique : (file : List ℕ) (types : Option TypeTable) (one other : Result (List NamedMap) LoadRefusal) → HasVariables file types one → HasVariables file types other → one ≡ other
variables-unique file _ _ _ (untyped h) (untyped k) = refl
variables-unique file _ _ _ (untyped h) (nothing k) = absurd (cc)
variables-unique file _ _ _ (nothing h) (untyped k) = absurd (cc)
variables-unique file _ _ _ (nothing h) (nothing k) = refl
variables-unique file _ _ _ (read {types = types} {maps = maps} m) (read {maps = others} n) = ap Ok (maps-unique types (variables types (codes ".maps")) maps others m n)
variables-unique file _ _ _ (read {types = types} {maps = maps} m) (broken {index = index} {rule = rule} b) = absurd (apart types (variables types (codes ".maps")) maps index rule m b)
variables-unique file _ _ _ (broken {types = types} {index = index} {rule = rule} b) (read {maps = maps} m) = absurd (apart types (variables types (codes ".maps")) maps index rule m b)
variables-unique file _ _ _ (broken {types = types} {index = i} {rule = r} b) (broken {index = j} {rule = s} c) =
    let same = break-unique types (variables types (codes ".maps")) i j r s b c in
    ap (λ k. Err (BadMap k r)) same.0 ∙ ap (λ k. Err (BadMap j k)) same.1

mapped-unique : (file : List ℕ) (functions : List Function) (maps : List NamedMap) (one other : Result (List Program) LoadRefusal) → LoadsMapped file functions maps one → LoadsMapped file functions maps other → one ≡ other
mapped-unique file functions maps =
    then-unique (each-unique (IsDraft file) RefusedInsn (draft-unique file) functions)
    (each-unique (λ draft answer. answer ≡ program_of file maps draft) BadReloc (λ draft one other e f. e ∙ sym f))

maps-unique_of : (file : List ℕ) (types : Option TypeTable) (one other : Result (List NamedMap) LoadRefusal) → HasMaps file types one → HasMaps file types other → one ≡ other
maps-unique_of file types = then-unique (variables-unique file types) (λ maps. is-unique (with_constants file maps (constant_sections file)))

functions-unique : (file : List ℕ) (types : Option TypeTable) (functions : List Function) (one other : Result (List Program) LoadRefusal) → LoadsFunctions file types functions one → LoadsFunctions file types functions other → one ≡ other
functions-unique file types functions = then-unique (maps-unique_of file types) (mapped-unique file functions)

typed-unique : (file : List ℕ) (indexes : List ℕ) (types : Option TypeTable) (one other : Result (List Program) LoadRefusal) → LoadsTyped file indexes types one → LoadsTyped file indexes types other → one ≡ other
typed-unique file indexes types = then-unique (each-unique (IsFunction file types) config_refusal (function-unique file types) indexes) (functions-unique file types)

symbols-unique : (file : List ℕ) (indexes : List ℕ) (one other : Result (List Program) LoadRefusal) → LoadsSymbols file indexes one → LoadsSymbols file indexes other → one ≡ other
symbols-unique file indexes = then-unique (is-unique (types_in file)) (typed-unique file indexes)

object-unique : (file : List ℕ) (one other : Result (List Program) LoadRefusal) → LoadsObject file one → LoadsObject file other → one ≡ other
object-unique file = then-unique (is-unique (programs_in file)) (symbols-unique file)

pub loads-unique : (file : List ℕ) (one other : Result (List Program) LoadRefusal) → Loads file one → Loads file other → one ≡ other
loads-unique file = then-unique (is-unique (object_of file)) object-unique

-- a call that answers a reading with one answer gave each answer of it
pub gives_only : {A : Type 0} (reading : Result A LoadRefusal → Type 0) → ((one other : Result A LoadRefusal) → reading one → reading other → one ≡ other) → (result : Result A LoadEnd) → Answers reading result → (answer : Result A LoadRefusal) → reading answer → Gives result answer
gives_only reading single (Ok value) answers answer says = single answer (Ok value) says answers
gives_only reading single (Err (Refused refusal)) answers answer says = single answer (Err refusal) says answers
gives_only reading single (Err OutOfMemory) answers answer says = tt
