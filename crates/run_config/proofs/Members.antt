-- What a member reads as, by its name.
use Rattle.std.proofs.Common.{◌≡◌, ℕ, true, false, List, Ok, Err, sym, ◌∙◌, subst}
use Rattle.btf_types.specs.declared.types.Part.{Part}
use Rattle.btf_types.specs.Size.{HasSize}
use Rattle.btf_types.specs.TypeTable.{TypeTable, name_at}
use Rattle.run_config.specs.declared.map_member.Field.{Field}
use Rattle.run_config.specs.Counted.{Counts}
use Rattle.run_config.specs.FieldName.{field_name}
use Rattle.run_config.specs.MapMembers.{is_number, is_other, is_size, no_number, no_pointer, no_size, Points, Reads, reads_number, reads_size}

module _ (types : TypeTable) (member : Part) (name : List ℕ) (is : name ≡ name_at types member.name) where
  pub other_name : (is_number name ≡ false) × (is_size name ≡ false) → Reads types member (Err 2)
  other_name other = is_other (subst (λ one. is_number one ≡ false) is other.0) (subst (λ one. is_size one ≡ false) is other.1)

  module _ (field : Field) (named : name ≡ field_name field) where
    same : field_name field ≡ name_at types member.name
    same = sym named ∙ is

    number_there : is_number (field_name field) ≡ true → is_number (name_at types member.name) ≡ true
    number_there h = subst (λ one. is_number one ≡ true) same h

    size_there : is_size (field_name field) ≡ true → is_size (name_at types member.name) ≡ true
    size_there h = subst (λ one. is_size one ≡ true) same h

    value_of : (value : ℕ) → Reads types member (Ok (record { name = name_at types member.name; value = value })) → Reads types member (Ok (record { name = field_name field; value = value }))
    value_of value r = subst (λ one. Reads types member (Ok (record { name = one; value = value }))) (sym same) r

    pub number_read : (value : ℕ) → is_number (field_name field) ≡ true → Counts types member.target value → Reads types member (Ok (record { name = field_name field; value = value }))
    number_read value n c = value_of value (reads_number (number_there n) c)

    pub no_number_read : is_number (field_name field) ≡ true → ((value : ℕ) → Counts types member.target value → ⊥) → Reads types member (Err 3)
    no_number_read n none = no_number (number_there n) none

    pub size_read : (target size : ℕ) → is_size (field_name field) ≡ true → Points types member.target target → HasSize types target size → Reads types member (Ok (record { name = field_name field; value = size }))
    size_read target size s p h = value_of size (reads_size (size_there s) p h)

    pub no_pointer_read : is_size (field_name field) ≡ true → ((target : ℕ) → Points types member.target target → ⊥) → Reads types member (Err 3)
    no_pointer_read s none = no_pointer (size_there s) none

    pub no_size_read : (target : ℕ) → is_size (field_name field) ≡ true → Points types member.target target → ((size : ℕ) → HasSize types target size → ⊥) → Reads types member (Err 4)
    no_size_read target s p none = no_size (size_there s) p none
