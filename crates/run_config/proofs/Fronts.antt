-- Names that are told by their first bytes.
use Rattle.std.proofs.Common.{◌≡◌, ℕ, zero, suc, ◌+◌, ◌<◌, ◌&&◌, ◌++◌, nat_eq, List, [], ◌∷◌, codes, length, take, refl, ap, arith}
use Rattle.std.specs.Str.{bytes_eq}
use Rattle.xio.specs.declared.action.Action.TheVariants.{Aborted, Drop, Pass, Tx, Redirect}
use Rattle.run_config.specs.declared.map_member.Field.{Field}
use Rattle.run_config.specs.declared.map_member.Field.TheVariants.{Kind, MaxEntries, KeySize, ValueSize, MapFlags, Pinning, Key, Value}
use Rattle.run_config.specs.declared.settings.Setting.{Setting}
use Rattle.run_config.specs.declared.settings.Setting.TheVariants.{Priority, GoesOn}
use Rattle.run_config.specs.FieldName.{field_name}
use Rattle.run_config.specs.MapMembers.{is_number, is_size}
use Rattle.run_config.specs.SettingName.{setting_name}
use Rattle.run_config.specs.Settings.{is_setting}

-- a front that is longer than a text is that text only where it is the whole
whole-front : (n : ℕ) (xs name : List ℕ) → length name < n → take n xs ≡ name → xs ≡ name
whole-front zero xs name short is = absurd (omega arith)
whole-front (suc n) [] name short is = is
whole-front (suc n) (x ∷ xs) [] short is = cc
whole-front (suc n) (x ∷ xs) (c ∷ name) short is =
    let head : x ≡ c = cc in
    let tail : take n xs ≡ name = cc in
    rw (head, whole-front n xs name (omega arith) tail) refl

front-eq : (n : ℕ) (xs name : List ℕ) → length name < n → bytes_eq (take n xs) name ≡ bytes_eq xs name
front-eq zero xs name short = absurd (omega arith)
front-eq (suc n) [] name short = refl
front-eq (suc n) (x ∷ xs) [] short = refl
front-eq (suc n) (x ∷ xs) (c ∷ name) short = ap (λ more. nat_eq x c && more) (front-eq n xs name (omega arith))

field-short : (field : Field) → length (field_name field) < 12
field-short Kind = omega arith
field-short MaxEntries = omega arith
field-short KeySize = omega arith
field-short ValueSize = omega arith
field-short MapFlags = omega arith
field-short Pinning = omega arith
field-short Key = omega arith
field-short Value = omega arith

pub field-front : (name : List ℕ) (field : Field) → take 12 name ≡ field_name field → name ≡ field_name field
field-front name field is = whole-front 12 name (field_name field) (field-short field) is

pub number-front : (name : List ℕ) → is_number (take 12 name) ≡ is_number name
unfolding is_number
number-front name =
    let eq = front-eq 12 name in
    rw (eq (codes "type") (omega arith), eq (codes "max_entries") (omega arith), eq (codes "key_size") (omega arith), eq (codes "value_size") (omega arith), eq (codes "map_flags") (omega arith), eq (codes "pinning") (omega arith)) refl

pub size-front : (name : List ℕ) → is_size (take 12 name) ≡ is_size name
unfolding is_size
size-front name =
    let eq = front-eq 12 name in
    rw (eq (codes "key") (omega arith), eq (codes "value") (omega arith)) refl

pub ruleset fields = (field-front, number-front, size-front)

setting-short : (setting : Setting) → length (setting_name setting) < 13
setting-short Priority = omega arith
setting-short (GoesOn Aborted) = omega arith
setting-short (GoesOn Drop) = omega arith
setting-short (GoesOn Pass) = omega arith
setting-short (GoesOn Tx) = omega arith
setting-short (GoesOn Redirect) = omega arith

pub setting-front : (name : List ℕ) (setting : Setting) → take 13 name ≡ setting_name setting → name ≡ setting_name setting
setting-front name setting is = whole-front 13 name (setting_name setting) (setting-short setting) is

pub known-front : (name : List ℕ) → is_setting (take 13 name) ≡ is_setting name
unfolding is_setting
known-front name =
    let eq = front-eq 13 name in
    rw (eq (codes "priority") (omega arith), eq (codes "XDP_ABORTED") (omega arith), eq (codes "XDP_DROP") (omega arith), eq (codes "XDP_PASS") (omega arith), eq (codes "XDP_TX") (omega arith), eq (codes "XDP_REDIRECT") (omega arith)) refl

pub ruleset settings = (setting-front, known-front)

-- two bytes more than a function's name has tell whether it is named so behind an underscore
pub named-front : (xs function : List ℕ) → bytes_eq (take (length function + 2) xs) (codes "_" ++ function) ≡ bytes_eq xs (codes "_" ++ function)
named-front xs function = front-eq (length function + 2) xs (codes "_" ++ function) (omega arith)

pub ruleset named_for = named-front
