-- Calls of the kernel's helpers (RFC 9669 §4.3.1; `enum bpf_func_id` of the kernel): the arguments stand in r1 to r5.
use Rattle.std.specs.Prelude.{ℕ, ℤ, pos, ◌+◌, ◌-◌, ◌%◌, ◌^◌, ◌+ℤ◌, ◌==◌, ◌&&◌, nat_le, nat_lt, int_le, if◌then◌else◌, List, [], ◌∷◌, length, drop, replicate, Option, Some, None, unwrap_or, find, unsigned_abs}
use Rattle.std.specs.Int.{w32, cast_unsigned, cast_signed}
use Rattle.flat_memory.specs.Memory.{written}
use Rattle.map_store.specs.declared.store.UpdateEnd.{UpdateEnd}
use Rattle.map_store.specs.declared.store.UpdateEnd.TheVariants as update
use Rattle.map_store.specs.declared.store.DeleteEnd.{DeleteEnd}
use Rattle.map_store.specs.declared.store.DeleteEnd.TheVariants as delete
use Rattle.map_store.specs.Answers.{update_end, updated, delete_end, deleted}
use Rattle.map_store.specs.Slots.{Map, map_at, with_map}
use Rattle.map_store.specs.Values.{lookup_of}
use Rattle.xio.specs.Action.{number}
use Rattle.xio.specs.declared.action.Action.TheVariants as action
use Rattle.bpf_machine.specs.declared.environment.Env.{Env}
use Rattle.bpf_machine.specs.declared.helpers.Helper.{Helper}
use Rattle.bpf_machine.specs.declared.helpers.Helper.TheVariants.{MapLookup, MapUpdate, MapDelete, Time, Processor, Redirect, AdjustHead, AdjustTail}
use Rattle.bpf_machine.specs.Access.{bytes_of}
use Rattle.bpf_machine.specs.Next.{Next, Goes, Faults, register, advanced}
use Rattle.bpf_machine.specs.State.{State, packet_start, context_start}

abbrev pub helper_number : Helper → ℕ
helper_number MapLookup = 1
helper_number MapUpdate = 2
helper_number MapDelete = 3
helper_number Time = 5
helper_number Processor = 8
helper_number Redirect = 23
helper_number AdjustHead = 44
helper_number AdjustTail = 65

abbrev pub helpers : List Helper
helpers = MapLookup ∷ MapUpdate ∷ MapDelete ∷ Time ∷ Processor ∷ Redirect ∷ AdjustHead ∷ AdjustTail ∷ []

unfoldable pub helper_of : ℤ → Option Helper
helper_of imm = find (λ helper. helper_number helper == cast_unsigned w32 imm) helpers

-- the state that a helper leaves, and its answer
pub record Answer : Type 0 where
  pub state : State
  pub value : ℕ

abbrev pub answered : State → ℕ → Option Answer
answered s value = Some (record { state = s; value = value })

-- the negative of an error number of the kernel, in 64 bits: EPERM is 1, ENOENT 2, E2BIG 7, EEXIST 17 and EINVAL 22
abbrev pub refusal : ℕ → ℕ
refusal error = 2 ^ 64 - error

-- a reference to a map is 0x70000000 and the map's number
unfoldable pub map_named : List Map → ℕ → Option ℕ
map_named maps reference =
    if nat_le 0x70000000 reference && nat_lt (reference - 0x70000000) (length maps) then Some (reference - 0x70000000) else None

-- the bytes of a key, and of a value, of a map
abbrev pub key_at : Env → State → ℕ → ℕ → Option (List ℕ)
key_at env s map a = bytes_of env s a (map_at s.maps map).key_size

abbrev pub value_at : Env → State → ℕ → ℕ → Option (List ℕ)
value_at env s map a = bytes_of env s a (map_at s.maps map).value_size

-- map_lookup_elem(map, key): the address of the value, or 0
unfoldable pub look_up : State → ℕ → Option (List ℕ) → Option Answer
look_up s map None = None
look_up s map (Some key) = answered s (unwrap_or (lookup_of s.maps map key) 0)

unfoldable pub map_lookup : Env → State → Option ℕ → Option Answer
map_lookup env s None = None
map_lookup env s (Some map) = look_up s map (key_at env s map (register s 2))

-- map_update_elem(map, key, value, flags)
abbrev pub update_number : UpdateEnd → ℕ
update_number update.Done = 0
update_number update.ReadOnly = refusal 1
update_number update.Missing = refusal 2
update_number update.NoRoom = refusal 7
update_number update.Exists = refusal 17
update_number update.BadFlag = refusal 22

abbrev pub after_update : List Map → ℕ → List ℕ → List ℕ → UpdateEnd → List Map
after_update maps map key value end = if update_number end == 0 then with_map maps map (updated (map_at maps map) key value) else maps

unfoldable pub update_value : State → ℕ → List ℕ → Option (List ℕ) → Option Answer
update_value s map key None = None
update_value s map key (Some value) =
    let end = update_end (map_at s.maps map) key (register s 4) in
    answered (record s { maps = after_update s.maps map key value end }) (update_number end)

unfoldable pub update_key : Env → State → ℕ → Option (List ℕ) → Option Answer
update_key env s map None = None
update_key env s map (Some key) = update_value s map key (value_at env s map (register s 3))

unfoldable pub map_update : Env → State → Option ℕ → Option Answer
map_update env s None = None
map_update env s (Some map) = update_key env s map (key_at env s map (register s 2))

-- map_delete_elem(map, key)
abbrev pub delete_number : DeleteEnd → ℕ
delete_number delete.Done = 0
delete_number delete.ReadOnly = refusal 1
delete_number delete.Missing = refusal 2
delete_number delete.Fixed = refusal 22

abbrev pub after_delete : List Map → ℕ → List ℕ → DeleteEnd → List Map
after_delete maps map key end = if delete_number end == 0 then with_map maps map (deleted (map_at maps map) key) else maps

unfoldable pub delete_key : State → ℕ → Option (List ℕ) → Option Answer
delete_key s map None = None
delete_key s map (Some key) =
    let end = delete_end (map_at s.maps map) key in
    answered (record s { maps = after_delete s.maps map key end }) (delete_number end)

unfoldable pub map_delete : Env → State → Option ℕ → Option Answer
map_delete env s None = None
map_delete env s (Some map) = delete_key s map (key_at env s map (register s 2))

-- redirect(ifindex, flags): XDP_REDIRECT, or XDP_ABORTED where there are flags
unfoldable pub redirect : State → Option Answer
redirect s =
    if register s 2 == 0 then answered (record s { target = register s 1 % 2 ^ 32 }) (number action.Redirect) else answered s (number action.Aborted)

-- the low half of a register, with its sign
abbrev pub delta_in : State → ℕ → ℤ
delta_in s n = cast_signed w32 (register s n % 2 ^ 32)

-- xdp_adjust_head(context, delta): the packet begins so many bytes later, not before the buffer, and keeps 14 bytes
unfoldable pub move_head : State → ℤ → Option Answer
move_head s delta =
    let start = pos s.data_start +ℤ delta in
    if int_le (pos packet_start) start && int_le (start +ℤ pos 14) (pos s.data_end)
    then answered (record s { data_start = unsigned_abs start }) 0
    else answered s (refusal 22)

-- xdp_adjust_tail(context, delta): the packet ends so many bytes later, not behind the buffer, and keeps 14 bytes. The
-- bytes that it gets are 0.
unfoldable pub move_tail : State → ℤ → Option Answer
move_tail s delta =
    let end = pos s.data_end +ℤ delta in
    if int_le (pos (s.data_start + 14)) end && int_le end (pos s.buffer_end)
    then
    answered (record s {
      data_end = unsigned_abs end;
      memory = written s.memory s.data_end (replicate (unsigned_abs end - s.data_end) 0);
    }) 0
    else answered s (refusal 22)

-- r1 is the context's address
abbrev pub on_context : State → Option Answer → Option Answer
on_context s answer = if register s 1 == context_start then answer else None

-- What a helper does, or none where it faults.
abbrev pub help : Env → State → Helper → Option Answer
help env s MapLookup = map_lookup env s (map_named s.maps (register s 1))
help env s MapUpdate = map_update env s (map_named s.maps (register s 1))
help env s MapDelete = map_delete env s (map_named s.maps (register s 1))
help env s Time = answered s env.timestamp
help env s Processor = answered s env.processor
help env s Redirect = redirect s
help env s AdjustHead = on_context s (move_head s (delta_in s 2))
help env s AdjustTail = on_context s (move_tail s (delta_in s 2))

-- the answer in r0, and 0 in r1 to r5
abbrev pub with_answer : State → ℕ → State
with_answer s value = record s { registers = value ∷ 0 ∷ 0 ∷ 0 ∷ 0 ∷ 0 ∷ drop 6 s.registers }

unfoldable pub after_help : State → Option Answer → Next
after_help s None = Faults s
after_help s (Some answer) = Goes (advanced (with_answer answer.state answer.value))

-- An unknown helper faults.
unfoldable pub helper_act : Env → State → Option Helper → Next
helper_act env s None = Faults s
helper_act env s (Some helper) = after_help s (help env s helper)
