-- What the helpers on maps answer, by what was read and what the maps answered.
use Rattle.std.proofs.Common.{◌≡◌, ℕ, List, length, Bool, true, false, Option, Some, None, unwrap_or, refl, sym, ◌∙◌}
use Rattle.std.specs.Prelude.{if◌then◌else◌}
use Rattle.flat_memory.specs.Memory.{bytes_at}
use Rattle.flat_memory.proofs.Laws.{length-bytes_at}
use Rattle.map_store.specs.declared.store.UpdateEnd.{UpdateEnd}
use Rattle.map_store.specs.declared.store.UpdateEnd.TheVariants as update
use Rattle.map_store.specs.declared.store.DeleteEnd.{DeleteEnd}
use Rattle.map_store.specs.declared.store.DeleteEnd.TheVariants as delete
use Rattle.map_store.specs.Answers.{update_end, updated, delete_end, deleted}
use Rattle.map_store.specs.Slots.{Map, map_at, with_map}
use Rattle.map_store.specs.Values.{lookup_of}
use Rattle.bpf_machine.specs.declared.environment.Env.{Env}
use Rattle.bpf_machine.specs.Access.{bytes_of, can_read, seen}
use Rattle.bpf_machine.specs.Helpers.{answered, key_at, value_at, look_up, map_lookup, update_number, after_update, update_value, update_key, map_update, delete_number, after_delete, delete_key, map_delete}
use Rattle.bpf_machine.specs.Next.{register}
use Rattle.bpf_machine.specs.State.{State}

length-guarded : (can : Bool) (all bytes : List ℕ) (n : ℕ) → length all ≡ n → (if can then Some all else None) ≡ Some bytes → length bytes ≡ n
length-guarded true all bytes n long is = let e : bytes ≡ all = cc in rw e long
length-guarded false all bytes n long is = cc

-- what is read is as long as was asked
pub length-read : (env : Env) (s : State) (a n : ℕ) (bytes : List ℕ) → bytes_of env s a n ≡ Some bytes → length bytes ≡ n
unfolding bytes_of
length-read env s a n bytes is = length-guarded (can_read s a n) (bytes_at (seen env s) a n) bytes n (length-bytes_at (seen env s) a n) is

-- a lookup
pub lookup-unnamed : (env : Env) (s : State) (named : Option ℕ) → named ≡ None → map_lookup env s named ≡ None
unfolding map_lookup
lookup-unnamed env s named e = rw e refl

pub lookup-unread : (env : Env) (s : State) (named : Option ℕ) (map : ℕ) → named ≡ Some map → key_at env s map (register s 2) ≡ None → map_lookup env s named ≡ None
unfolding map_lookup look_up
lookup-unread env s named map e key = rw (e, key) refl

pub looked_up : (env : Env) (s : State) (named : Option ℕ) (map : ℕ) (key : List ℕ) (value : ℕ) → named ≡ Some map → key_at env s map (register s 2) ≡ Some key → value ≡ unwrap_or (lookup_of s.maps map key) 0
    → map_lookup env s named ≡ answered s value
unfolding map_lookup look_up
looked_up env s named map key value e read is = rw (e, read, is) refl

-- an update
pub update-unnamed : (env : Env) (s : State) (named : Option ℕ) → named ≡ None → map_update env s named ≡ None
unfolding map_update
update-unnamed env s named e = rw e refl

pub update-no_key : (env : Env) (s : State) (named : Option ℕ) (map : ℕ) → named ≡ Some map → key_at env s map (register s 2) ≡ None → map_update env s named ≡ None
unfolding map_update update_key
update-no_key env s named map e key = rw (e, key) refl

pub update-no_value : (env : Env) (s t : State) (named : Option ℕ) (map : ℕ) (key : List ℕ) → named ≡ Some map → key_at env s map (register s 2) ≡ Some key → t ≡ s → value_at env t map (register t 3) ≡ None → map_update env s named ≡ None
unfolding map_update update_key update_value
update-no_value env s t named map key e read same value =
    let none : value_at env s map (register s 3) ≡ None = rw same at value in
    rw (e, read, none) refl

-- the maps that an update leaves, as its answer says
left-update : (maps new : List Map) (map : ℕ) (key value : List ℕ) (end : UpdateEnd) → (end ≡ update.Done → new ≡ with_map maps map (updated (map_at maps map) key value)) → ((end ≡ update.Done → ⊥) → new ≡ maps) → after_update maps map key value end ≡ new
left-update maps new map key value update.Done done refused = sym (done refl)
left-update maps new map key value update.ReadOnly done refused = sym (refused (λ e. cc))
left-update maps new map key value update.Missing done refused = sym (refused (λ e. cc))
left-update maps new map key value update.NoRoom done refused = sym (refused (λ e. cc))
left-update maps new map key value update.Exists done refused = sym (refused (λ e. cc))
left-update maps new map key value update.BadFlag done refused = sym (refused (λ e. cc))

pub update-done : (env : Env) (s t u : State) (named : Option ℕ) (map : ℕ) (key value : List ℕ) (end : UpdateEnd) (new : List Map) (number : ℕ) → named ≡ Some map
    → key_at env s map (register s 2) ≡ Some key → t ≡ s → value_at env t map (register t 3) ≡ Some value → u ≡ t
    → end ≡ update_end (map_at u.maps map) key (register u 4)
    → (end ≡ update.Done → new ≡ with_map u.maps map (updated (map_at u.maps map) key value)) → ((end ≡ update.Done → ⊥) → new ≡ u.maps)
    → number ≡ update_number end
    → map_update env s named ≡ answered (record u { maps = new }) number
unfolding map_update update_key update_value
update-done env s t u named map key value end new number e read same value_read same' is done refused number_is =
    let same_u : u ≡ s = same' ∙ same in
    let read_value : value_at env s map (register s 3) ≡ Some value = rw same at value_read in
    let is_s : end ≡ update_end (map_at s.maps map) key (register s 4) = rw same_u at is in
    let maps : after_update u.maps map key value end ≡ new = left-update u.maps new map key value end done refused in
    let maps_s : after_update s.maps map key value end ≡ new = rw same_u at maps in
    rw (e, read, read_value, ← is_s, maps_s, number_is, same_u) refl

-- a deletion
pub delete-unnamed : (env : Env) (s : State) (named : Option ℕ) → named ≡ None → map_delete env s named ≡ None
unfolding map_delete
delete-unnamed env s named e = rw e refl

pub delete-no_key : (env : Env) (s : State) (named : Option ℕ) (map : ℕ) → named ≡ Some map → key_at env s map (register s 2) ≡ None → map_delete env s named ≡ None
unfolding map_delete delete_key
delete-no_key env s named map e key = rw (e, key) refl

-- the maps that a deletion leaves, as its answer says
left-delete : (maps new : List Map) (map : ℕ) (key : List ℕ) (end : DeleteEnd) → (end ≡ delete.Done → new ≡ with_map maps map (deleted (map_at maps map) key)) → ((end ≡ delete.Done → ⊥) → new ≡ maps) → after_delete maps map key end ≡ new
left-delete maps new map key delete.Done done refused = sym (done refl)
left-delete maps new map key delete.ReadOnly done refused = sym (refused (λ e. cc))
left-delete maps new map key delete.Missing done refused = sym (refused (λ e. cc))
left-delete maps new map key delete.Fixed done refused = sym (refused (λ e. cc))

pub delete-done : (env : Env) (s t : State) (named : Option ℕ) (map : ℕ) (key : List ℕ) (end : DeleteEnd) (new : List Map) (number : ℕ) → named ≡ Some map
    → key_at env s map (register s 2) ≡ Some key → t ≡ s
    → end ≡ delete_end (map_at t.maps map) key
    → (end ≡ delete.Done → new ≡ with_map t.maps map (deleted (map_at t.maps map) key)) → ((end ≡ delete.Done → ⊥) → new ≡ t.maps)
    → number ≡ delete_number end
    → map_delete env s named ≡ answered (record t { maps = new }) number
unfolding map_delete delete_key
delete-done env s t named map key end new number e read same is done refused number_is =
    let is_s : end ≡ delete_end (map_at s.maps map) key = rw same at is in
    let maps : after_delete t.maps map key end ≡ new = left-delete t.maps new map key end done refused in
    let maps_s : after_delete s.maps map key end ≡ new = rw same at maps in
    rw (e, read, ← is_s, maps_s, number_is, same) refl
