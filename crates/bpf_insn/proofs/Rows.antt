-- The rows of the table: the forms of all operations, by opcode.
use Rattle.std.proofs.Common.{◌≡◌, ℕ, zero, suc, Bool, true, false, List, [], ◌∷◌, Some, None, refl, ap, ◌∙◌, sym, subst, map, arith, cond, Option, unwrap_or}
use Rattle.std.specs.Prelude.{◌==◌, All, Contains, IfSome}
use Rattle.std.specs.List.{find}
use Rattle.bpf_insn.specs.declared.operation.Arithmetic.{Arithmetic}
use Rattle.bpf_insn.specs.declared.operation.Arithmetic.TheVariants.{Add, Sub, Mul, Div, Or, And, Lsh, Rsh, Mod, Xor, Mov, Arsh}
use Rattle.bpf_alu.specs.declared.byte_order.Order.TheVariants.{ToLittle, ToBig, Swap}
use Rattle.bpf_alu.specs.declared.comparison.Test.{Test}
use Rattle.bpf_alu.specs.declared.comparison.Test.TheVariants.{Eq, Gt, Ge, Set, Ne, Sgt, Sge, Lt, Le, Slt, Sle}
use Rattle.bpf_insn.specs.declared.operation.Distance.TheVariants as distance
use Rattle.bpf_insn.specs.declared.operation.Narrow.TheVariants as narrow
use Rattle.bpf_insn.specs.declared.operation.Operand.{Operand}
use Rattle.bpf_insn.specs.declared.operation.Operand.TheVariants.{Imm, Register}
use Rattle.bpf_insn.specs.declared.operation.Operation.{Operation}
use Rattle.bpf_insn.specs.declared.operation.Operation.TheVariants.{Alu, Neg, End, Jump, Branch, Call, Exit, Load, LoadSigned, Store, LoadWide}
use Rattle.bpf_insn.specs.declared.operation.Operation.TheVariants as operation
use Rattle.bpf_insn.specs.declared.operation.Size.TheVariants.{Byte, Half, Word, Double}
use Rattle.bpf_insn.specs.declared.operation.Width.{Width}
use Rattle.bpf_insn.specs.declared.operation.Width.TheVariants.{Bits32, Bits64}
use Rattle.bpf_insn.specs.declared.table.Form.{Form}
use Rattle.bpf_insn.specs.declared.table.TheConstants.{ROWS}
use Rattle.bpf_insn.specs.Operation.{opcode_of}
use Rattle.bpf_insn.specs.Form.{form_of, half_form, IsForm}
use Rattle.bpf_insn.specs.Table.{AreApart}
use Rattle.bpf_insn.proofs.Apart.{apart_from_test}

-- the row that has the opcode of an operation is its form
abbrev IsListed : Operation → Type 0
IsListed o = find (λ row. row.opcode == opcode_of o) ROWS ≡ Some (form_of o)

listed_alu : (width : Width) (op : Arithmetic) (operand : Operand) → IsListed (Alu width op operand)
listed_alu Bits32 op Imm = elim op as (λ op. IsListed (Alu Bits32 op Imm)) [ Add ↦ refl | Sub ↦ refl | Mul ↦ refl | Div ↦ refl | Or ↦ refl | And ↦ refl | Lsh ↦ refl | Rsh ↦ refl | Mod ↦ refl | Xor ↦ refl | Mov ↦ refl | Arsh ↦ refl ]
listed_alu Bits32 op Register = elim op as (λ op. IsListed (Alu Bits32 op Register)) [ Add ↦ refl | Sub ↦ refl | Mul ↦ refl | Div ↦ refl | Or ↦ refl | And ↦ refl | Lsh ↦ refl | Rsh ↦ refl | Mod ↦ refl | Xor ↦ refl | Mov ↦ refl | Arsh ↦ refl ]
listed_alu Bits64 op Imm = elim op as (λ op. IsListed (Alu Bits64 op Imm)) [ Add ↦ refl | Sub ↦ refl | Mul ↦ refl | Div ↦ refl | Or ↦ refl | And ↦ refl | Lsh ↦ refl | Rsh ↦ refl | Mod ↦ refl | Xor ↦ refl | Mov ↦ refl | Arsh ↦ refl ]
listed_alu Bits64 op Register = elim op as (λ op. IsListed (Alu Bits64 op Register)) [ Add ↦ refl | Sub ↦ refl | Mul ↦ refl | Div ↦ refl | Or ↦ refl | And ↦ refl | Lsh ↦ refl | Rsh ↦ refl | Mod ↦ refl | Xor ↦ refl | Mov ↦ refl | Arsh ↦ refl ]

listed_branch : (width : Width) (test : Test) (operand : Operand) → IsListed (Branch width test operand)
listed_branch Bits32 test Imm = elim test as (λ test. IsListed (Branch Bits32 test Imm)) [ Eq ↦ refl | Gt ↦ refl | Ge ↦ refl | Set ↦ refl | Ne ↦ refl | Sgt ↦ refl | Sge ↦ refl | Lt ↦ refl | Le ↦ refl | Slt ↦ refl | Sle ↦ refl ]
listed_branch Bits32 test Register = elim test as (λ test. IsListed (Branch Bits32 test Register)) [ Eq ↦ refl | Gt ↦ refl | Ge ↦ refl | Set ↦ refl | Ne ↦ refl | Sgt ↦ refl | Sge ↦ refl | Lt ↦ refl | Le ↦ refl | Slt ↦ refl | Sle ↦ refl ]
listed_branch Bits64 test Imm = elim test as (λ test. IsListed (Branch Bits64 test Imm)) [ Eq ↦ refl | Gt ↦ refl | Ge ↦ refl | Set ↦ refl | Ne ↦ refl | Sgt ↦ refl | Sge ↦ refl | Lt ↦ refl | Le ↦ refl | Slt ↦ refl | Sle ↦ refl ]
listed_branch Bits64 test Register = elim test as (λ test. IsListed (Branch Bits64 test Register)) [ Eq ↦ refl | Gt ↦ refl | Ge ↦ refl | Set ↦ refl | Ne ↦ refl | Sgt ↦ refl | Sge ↦ refl | Lt ↦ refl | Le ↦ refl | Slt ↦ refl | Sle ↦ refl ]

listed : (o : Operation) → IsListed o
listed (Alu width op operand) = listed_alu width op operand
listed (Neg Bits32) = refl
listed (Neg Bits64) = refl
listed (End ToLittle) = refl
listed (End ToBig) = refl
listed (End Swap) = refl
listed (Jump distance.Offset) = refl
listed (Jump distance.Imm) = refl
listed (Branch width test operand) = listed_branch width test operand
listed Call = refl
listed Exit = refl
listed (Load Byte) = refl
listed (Load Half) = refl
listed (Load Word) = refl
listed (Load Double) = refl
listed (LoadSigned narrow.Byte) = refl
listed (LoadSigned narrow.Half) = refl
listed (LoadSigned narrow.Word) = refl
listed (Store Byte Imm) = refl
listed (Store Byte Register) = refl
listed (Store Half Imm) = refl
listed (Store Half Register) = refl
listed (Store Word Imm) = refl
listed (Store Word Register) = refl
listed (Store Double Imm) = refl
listed (Store Double Register) = refl
listed (operation.Atomic Bits32) = refl
listed (operation.Atomic Bits64) = refl
listed LoadWide = refl

-- operations of one opcode have one form
pub one_form : (o p : Operation) → opcode_of o ≡ opcode_of p → form_of o ≡ form_of p
one_form o p same =
    ap (λ found. unwrap_or found half_form) (sym (listed o) ∙ ap (λ n. find (λ row. row.opcode == n) ROWS) same ∙ listed p)

-- what a search finds is in the list
Contains-find : {X : Type 0} (p : X → Bool) (xs : List X) (x : X) → find p xs ≡ Some x → Contains xs x
Contains-find p [] x e = cc
Contains-find {X} p (y ∷ ys) x e = by (Contains-find p ys x) (p y) e where
  by : (find p ys ≡ Some x → Contains ys x) → (b : Bool) → cond b (Some y) (find p ys) ≡ Some x → Contains (y ∷ ys) x
  by rest true e = (0, omega arith, cc)
  by rest false e = let found = rest e in (suc found.0, omega arith, found.2)

pub every_form : (o : Operation) → Contains ROWS (form_of o)
every_form o = Contains-find (λ row. row.opcode == opcode_of o) ROWS (form_of o) (listed o)

-- the operations by opcode, those of one high half byte on a line
abbrev operations : List Operation
operations =
    Alu Bits32 Add Imm ∷ Jump distance.Offset ∷ Jump distance.Imm ∷ Alu Bits64 Add Imm ∷ Alu Bits32 Add Register ∷ Alu Bits64 Add Register ∷
    Alu Bits32 Sub Imm ∷ Branch Bits64 Eq Imm ∷ Branch Bits32 Eq Imm ∷ Alu Bits64 Sub Imm ∷ LoadWide ∷ Alu Bits32 Sub Register ∷ Branch Bits64 Eq Register ∷ Branch Bits32 Eq Register ∷ Alu Bits64 Sub Register ∷
    Alu Bits32 Mul Imm ∷ Branch Bits64 Gt Imm ∷ Branch Bits32 Gt Imm ∷ Alu Bits64 Mul Imm ∷ Alu Bits32 Mul Register ∷ Branch Bits64 Gt Register ∷ Branch Bits32 Gt Register ∷ Alu Bits64 Mul Register ∷
    Alu Bits32 Div Imm ∷ Branch Bits64 Ge Imm ∷ Branch Bits32 Ge Imm ∷ Alu Bits64 Div Imm ∷ Alu Bits32 Div Register ∷ Branch Bits64 Ge Register ∷ Branch Bits32 Ge Register ∷ Alu Bits64 Div Register ∷
    Alu Bits32 Or Imm ∷ Branch Bits64 Set Imm ∷ Branch Bits32 Set Imm ∷ Alu Bits64 Or Imm ∷ Alu Bits32 Or Register ∷ Branch Bits64 Set Register ∷ Branch Bits32 Set Register ∷ Alu Bits64 Or Register ∷
    Alu Bits32 And Imm ∷ Branch Bits64 Ne Imm ∷ Branch Bits32 Ne Imm ∷ Alu Bits64 And Imm ∷ Alu Bits32 And Register ∷ Branch Bits64 Ne Register ∷ Branch Bits32 Ne Register ∷ Alu Bits64 And Register ∷
    Load Word ∷ Store Word Imm ∷ Store Word Register ∷ Alu Bits32 Lsh Imm ∷ Branch Bits64 Sgt Imm ∷ Branch Bits32 Sgt Imm ∷ Alu Bits64 Lsh Imm ∷ Load Half ∷ Store Half Imm ∷ Store Half Register ∷ Alu Bits32 Lsh Register ∷ Branch Bits64 Sgt Register ∷ Branch Bits32 Sgt Register ∷ Alu Bits64 Lsh Register ∷
    Load Byte ∷ Store Byte Imm ∷ Store Byte Register ∷ Alu Bits32 Rsh Imm ∷ Branch Bits64 Sge Imm ∷ Branch Bits32 Sge Imm ∷ Alu Bits64 Rsh Imm ∷ Load Double ∷ Store Double Imm ∷ Store Double Register ∷ Alu Bits32 Rsh Register ∷ Branch Bits64 Sge Register ∷ Branch Bits32 Sge Register ∷ Alu Bits64 Rsh Register ∷
    LoadSigned narrow.Word ∷ Neg Bits32 ∷ Call ∷ Neg Bits64 ∷ LoadSigned narrow.Half ∷
    LoadSigned narrow.Byte ∷ Alu Bits32 Mod Imm ∷ Exit ∷ Alu Bits64 Mod Imm ∷ Alu Bits32 Mod Register ∷ Alu Bits64 Mod Register ∷
    Alu Bits32 Xor Imm ∷ Branch Bits64 Lt Imm ∷ Branch Bits32 Lt Imm ∷ Alu Bits64 Xor Imm ∷ Alu Bits32 Xor Register ∷ Branch Bits64 Lt Register ∷ Branch Bits32 Lt Register ∷ Alu Bits64 Xor Register ∷
    Alu Bits32 Mov Imm ∷ Branch Bits64 Le Imm ∷ Branch Bits32 Le Imm ∷ Alu Bits64 Mov Imm ∷ Alu Bits32 Mov Register ∷ Branch Bits64 Le Register ∷ Branch Bits32 Le Register ∷ Alu Bits64 Mov Register ∷
    operation.Atomic Bits32 ∷ Alu Bits32 Arsh Imm ∷ Branch Bits64 Slt Imm ∷ Branch Bits32 Slt Imm ∷ Alu Bits64 Arsh Imm ∷ Alu Bits32 Arsh Register ∷ Branch Bits64 Slt Register ∷ Branch Bits32 Slt Register ∷ Alu Bits64 Arsh Register ∷
    End ToLittle ∷ Branch Bits64 Sle Imm ∷ Branch Bits32 Sle Imm ∷ End Swap ∷ operation.Atomic Bits64 ∷ End ToBig ∷ Branch Bits64 Sle Register ∷ Branch Bits32 Sle Register ∷
    []

rows : ROWS ≡ map form_of operations
rows = refl

-- each row of a list made of operations is a form of one
forms : (os : List Operation) → All IsForm (map form_of os)
forms [] k d within = absurd (omega arith)
forms (o ∷ os) zero d within = (o, refl)
forms (o ∷ os) (suc k) d within = forms os k d (omega arith)

pub only_forms : All IsForm ROWS
only_forms = subst (All IsForm) (sym rows) (forms operations)

pub rows_apart : AreApart ROWS
rows_apart = apart_from_test ROWS refl

-- what is found among the rows is a form
pub form_found : (found : Option Form) (n : ℕ) → IfSome found (λ form. Contains ROWS form × (form.opcode ≡ n)) → IfSome found (λ form. IsForm form × (form.opcode ≡ n))
form_found None n h = tt
form_found (Some form) n h = (subst IsForm h.0.2 (only_forms h.0.0 form h.0.1), h.1)
