-- What a written block is to a reader.
use Rattle.std.proofs.Common.{◌≡◌, ℕ, zero, suc, ◌+◌, ◌-◌, ◌*◌, ◌/◌, ◌%◌, ◌^◌, ◌<◌, ◌≤◌, Bool, true, false, not, cond, eqb, nat_lt, nat_le, IsTrue, slice_get, List, [], ◌∷◌, ◌++◌, take, drop, length, Option, Some, None, Result, Ok, Err, IfOk, OnOk, refl, ap, sym, subst, ◌∙◌, append_assoc, arith}
use Rattle.std.proofs.lemmas.List.{append-nil, drop_at, length-append, length-take, length-take-le, take_at, take_all}
use Rattle.std.proofs.lemmas.Grind.{common_steps}
use Rattle.std.specs.Prelude.{codes, ◌&&◌}
use Rattle.std.specs.Fmt.{decimal}
use Rattle.std.proofs.lemmas.Fmt.{length-decimal-le}
use Rattle.xio.specs.Action.{number}
use Rattle.xio.specs.declared.action.Action.{Action}
use Rattle.byteorder.specs.Numbers.{little_number-reads_back}
use Rattle.byteorder.specs.Endian.{little_number}
use Rattle.pcapng_text.specs.declared.endian.Endian.{Endian}
use Rattle.pcapng_text.specs.declared.endian.Endian.TheVariants.{Little}
use Rattle.pcapng_text.specs.Rule.{first_broken}
use Rattle.pcapng_text.specs.declared.progress.Progress.{Progress}
use Rattle.pcapng_text.specs.Endian.{u16_at, u32_at}
use Rattle.pcapng_text.specs.Options.{are_inside, has_option, option_code, option_length, option_of, option_size, options_in, padded}
use Rattle.pcapng_text.specs.Interface.{has_bad_option, interface_of, interface_rules, options_of, resolution_in}
use Rattle.pcapng_text.specs.declared.interface_block.Interface.{Interface}
use Rattle.pcapng_text.specs.declared.packet_options.PacketOptions.{PacketOptions}
use Rattle.pcapng_text.specs.Start.{is_bad_size, is_section, magic_order, order_of, size_of, start_rules}
use Rattle.pcapng_text.specs.Section.{Passes, Brings, block_outcome, body_outcome, packet_outcome, section_rules}
use Rattle.pcapng_text.specs.Packet.{enhanced_claim, frame_of, nanoseconds, packet_rules, time_of}
use Rattle.pcapng_text.specs.declared.packet_block.Claim.{Claim}
use Rattle.pcapng_text.specs.Reading.{Skips, Gives, TakesUpTo, at_start, block_step, capture_of, has_ended, head_of, reading, start_break, step, step_to}
use Rattle.pcapng_text.specs.ReadBack.{IsPacketOf, ReadsAsInterface, ReadsAsPacket, ReadsAsSection, StandsIn, behind_interface, behind_packet, behind_section}
use Rattle.pcapng_text.specs.Written.{block_bytes, block_size, end_of_options, interface_bytes, interface_fields, interface_options, option_bytes, packet_bytes, packet_fields, packet_options, packet_size, padding, section_bytes, section_fields, u32_bytes, u64_bytes, verdict_option}
use Rattle.pcapng_text.proofs.Lengths.{length-block, length-option, padded-even, padded-le}
use Rattle.pcapng_text.proofs.OptionsIn.{options_in_more}
use Rattle.pcapng_text.proofs.Steps.{step-block}
use Rattle.pcapng_text.proofs.Walk.{reading-gives, reading-skips}

-- the first twelve bytes of a block that is no section header, in a little endian section
module _ (place : ℕ) (endian : Endian) (head : List ℕ) (kind size : ℕ) (later : 0 < place) (is_little : endian ≡ Little) (long : length head ≡ 12)
    (kind_is : u32_at Little head 0 ≡ kind) (no_section : eqb kind 0x0A0D0D0A ≡ false) (size_at : u32_at Little head 4 ≡ size) where
  head_goes_on : has_ended place head ≡ false
  unfolding has_ended
  head_goes_on = let test : nat_lt 0 place ≡ true = grind (arith, later) in rw (test, long) refl

  is_no_section : is_section head ≡ false
  unfolding is_section
  is_no_section = rw kind_is no_section

  order_is : order_of endian head ≡ Little
  unfolding order_of
  order_is = rw is_no_section is_little

  size_is : size_of endian head ≡ size
  unfolding size_of
  size_is = rw order_is size_at

  start_kept : is_bad_size size ≡ false → first_broken (start_rules place endian head) ≡ None
  unfolding start_rules
  start_kept good =
      let first : eqb place 0 ≡ false = grind (arith, later) in
      rw (long, first, is_no_section, size_is, good) refl

module _ (kind : ℕ) (fields content options : List ℕ) (kind_fits : kind < 2 ^ 32) (size_fits : block_size fields content options < 2 ^ 32) where
  -- the first two numbers of a written block, whatever stands behind them
  kind_at_head : (rest : List ℕ) → u32_at Little (take 12 (block_bytes kind fields content options ++ rest)) 0 ≡ kind
  unfolding u32_at block_bytes
  kind_at_head rest = little_number-reads_back 4 kind [] kind_fits

  size_at_head : (rest : List ℕ) → u32_at Little (take 12 (block_bytes kind fields content options ++ rest)) 4 ≡ block_size fields content options
  unfolding u32_at block_bytes
  size_at_head rest = little_number-reads_back 4 (block_size fields content options) [] size_fits

  -- and the last
  size_at_end : u32_at Little (block_bytes kind fields content options) (length (block_bytes kind fields content options) - 4) ≡ block_size fields content options
  unfolding u32_at block_bytes
  size_at_end =
      let last = u32_bytes (block_size fields content options) in
      let front = u32_bytes kind ++ last ++ fields ++ content ++ padding (length content) ++ options in
      let place : length front ≡ length (front ++ last) - 4 = simp length-append (omega arith) in
      ap (little_number 4) (drop_at front last (length (front ++ last) - 4) place) ∙ little_number-reads_back 4 (block_size fields content options) [] size_fits

  some_bytes : 12 ≤ block_size fields content options
  unfolding block_size
  some_bytes = omega arith

  module _ (even : block_size fields content options % 4 ≡ 0) (bounded : block_size fields content options ≤ 16777216) (no_section : eqb kind 0x0A0D0D0A ≡ false)
      (limit : ℕ) (before : Progress) (rest : List ℕ) (fits : StandsIn limit before (block_bytes kind fields content options)) where
    head_length : length (head_of (block_bytes kind fields content options ++ rest)) ≡ 12
    head_length = length-take-le 12 _ (omega (arith, length-append (block_bytes kind fields content options) rest, length-block kind fields content options, some_bytes))

    good_size : is_bad_size (block_size fields content options) ≡ false
    unfolding is_bad_size
    good_size = grind (arith, some_bytes, even, bounded)

    -- a written block is taken whole, and its type decides
    written-step : step limit before (block_bytes kind fields content options ++ rest) ≡ step_to before (before.place + block_size fields content options) Little (body_outcome Little before.interfaces (block_bytes kind fields content options))
    unfolding block_step block_outcome
    written-step =
        let bytes = block_bytes kind fields content options in
        let size = block_size fields content options in
        let head = head_of (bytes ++ rest) in
        let long : length bytes ≡ size = length-block kind fields content options in
        let within : before.place + size ≤ limit = omega (arith, fits.within, long) in
        let front : take size (bytes ++ rest) ≡ bytes = take_at bytes rest size long in
        let whole : nat_lt (length bytes) size ≡ false = grind (arith, long) in
        let last : eqb (u32_at Little bytes (length bytes - 4)) (length bytes) ≡ true = grind (arith, size_at_end, long) in
        step-block limit before (bytes ++ rest)
        (head_goes_on before.place before.endian head kind size fits.later fits.endian head_length (kind_at_head rest) no_section (size_at_head rest))
        (start_kept before.place before.endian head kind size fits.later fits.endian head_length (kind_at_head rest) no_section (size_at_head rest) good_size)
        Little (sym (order_is before.place before.endian head kind size fits.later fits.endian head_length (kind_at_head rest) no_section (size_at_head rest)))
        size (sym (size_is before.place before.endian head kind size fits.later fits.endian head_length (kind_at_head rest) no_section (size_at_head rest)))
        within
        ∙ rw (front, whole, last) refl

pub option_code-written : (code : ℕ) (value rest : List ℕ) → code < 2 ^ 16 → option_code Little (option_bytes code value ++ rest) ≡ code
unfolding option_code u16_at option_bytes
option_code-written code value rest fits = little_number-reads_back 2 code [] fits

pub option_size-written : (code : ℕ) (value rest : List ℕ) → length value < 2 ^ 16 → option_size Little (option_bytes code value ++ rest) ≡ length value
unfolding option_size u16_at option_bytes
option_size-written code value rest fits = little_number-reads_back 2 (length value) [] fits

module _ (name : List ℕ) (name_fits : length name < 2 ^ 16) where
  options_is : interface_options name ≡ option_bytes 2 name ++ (option_bytes 9 (9 ∷ []) ++ end_of_options)
  options_is = append_assoc (option_bytes 2 name) (option_bytes 9 (9 ∷ [])) end_of_options

  behind_is : options_in Little (option_bytes 9 (9 ∷ []) ++ end_of_options) ≡ (option_bytes 9 (9 ∷ []) ++ end_of_options) ∷ []
  unfolding has_option option_code option_length option_size padded u16_at option_bytes padding
  behind_is = refl

  behind_length : length (option_bytes 9 (9 ∷ []) ++ end_of_options) ≡ 12
  unfolding option_bytes padding padded
  behind_length = refl

  length-options : length (interface_options name) ≡ 16 + padded (length name)
  length-options =
      rw options_is (omega (arith, length-append (option_bytes 2 name) (option_bytes 9 (9 ∷ []) ++ end_of_options), length-option 2 name, behind_length))

  stands : has_option Little (interface_options name) ≡ true
  unfolding has_option
  stands =
      let code : option_code Little (interface_options name) ≡ 2 = rw options_is (option_code-written 2 name _ (omega arith)) in
      let some : nat_lt 0 (length (interface_options name)) ≡ true = grind (arith, length-options) in
      rw (some, code) refl

  size-options : option_length Little (interface_options name) ≡ length (option_bytes 2 name)
  unfolding option_length
  size-options = rw (options_is, option_size-written 2 name (option_bytes 9 (9 ∷ []) ++ end_of_options) name_fits) (sym (length-option 2 name))

  both : options_in Little (interface_options name) ≡ interface_options name ∷ (option_bytes 9 (9 ∷ []) ++ end_of_options) ∷ []
  both =
      let some : 0 < length (interface_options name) = omega (arith, length-options) in
      let rest : drop (option_length Little (interface_options name)) (interface_options name) ≡ option_bytes 9 (9 ∷ []) ++ end_of_options =
      rw size-options (ap (drop (length (option_bytes 2 name))) options_is ∙ drop_at (option_bytes 2 name) _ _ refl) in
      options_in_more Little (interface_options name) stands some
      ∙ ap (λ options. interface_options name ∷ options) (ap (options_in Little) rest ∙ behind_is)

  unit_inside : (nat_le (option_length Little (option_bytes 9 (9 ∷ []) ++ end_of_options)) (length (option_bytes 9 (9 ∷ []) ++ end_of_options)) && true) ≡ true
  unfolding option_length option_size padded u16_at option_bytes padding
  unit_inside = refl

  inside : are_inside Little (interface_options name) ≡ true
  unfolding are_inside
  inside =
      let first : nat_le (option_length Little (interface_options name)) (length (interface_options name)) ≡ true = grind (arith, size-options, length-options, length-option 2 name) in
      rw (both, first) unit_inside

  unit : option_of Little 9 (interface_options name) ≡ Some (option_bytes 9 (9 ∷ []) ++ end_of_options)
  unfolding option_of
  unit =
      let first : eqb (option_code Little (interface_options name)) 9 ≡ false = rw (options_is, option_code-written 2 name (option_bytes 9 (9 ∷ []) ++ end_of_options) (omega arith)) refl in
      let second : eqb (option_code Little (option_bytes 9 (9 ∷ []) ++ end_of_options)) 9 ≡ true = rw (option_code-written 9 (9 ∷ []) end_of_options (omega arith)) refl in
      rw (both, first, second) refl

  good_options : has_bad_option Little (interface_options name) ≡ false
  unfolding has_bad_option option_size u16_at option_bytes padding padded
  good_options = rw (inside, unit) refl

  resolution : resolution_in Little (interface_options name) ≡ 9
  unfolding resolution_in option_bytes padding padded
  resolution = rw unit refl

-- a written block was taken whole
taken_whole : (place : ℕ) (bytes rest : List ℕ) → TakesUpTo place (place + length bytes) (bytes ++ rest) rest
taken_whole place bytes rest = record { taken = bytes; left = refl; counted = refl }

module _ (name : List ℕ) (snap : ℕ) (name_fits : length name < 2 ^ 16) (snap_fits : snap < 2 ^ 32) where
  interface_size : block_size (interface_fields snap) [] (interface_options name) ≡ 36 + padded (length name)
  unfolding block_size padded
  interface_size = omega (arith, length-options name name_fits)

  length-interface : length (interface_bytes name snap) ≡ 36 + padded (length name)
  unfolding interface_bytes
  length-interface = length-block 1 (interface_fields snap) [] (interface_options name) ∙ interface_size

  options_are : options_of (interface_bytes name snap) ≡ interface_options name
  unfolding options_of interface_bytes block_bytes padding padded
  options_are =
      take_at (interface_options name) (u32_bytes (block_size (interface_fields snap) [] (interface_options name))) _ (omega (arith, length-interface, length-options name name_fits))

  interface_kind : u32_at Little (interface_bytes name snap) 0 ≡ 1
  unfolding u32_at interface_bytes block_bytes
  interface_kind = little_number-reads_back 4 1 [] (omega arith)

  link_type : u16_at Little (interface_bytes name snap) 8 ≡ 1
  unfolding u16_at interface_bytes block_bytes
  link_type = little_number-reads_back 2 1 [] (omega arith)

  snap_at : u32_at Little (interface_bytes name snap) 12 ≡ snap
  unfolding u32_at interface_bytes block_bytes
  snap_at = little_number-reads_back 4 snap [] snap_fits

  interface_outcome : (interfaces : List Interface) → body_outcome Little interfaces (interface_bytes name snap) ≡ Passes (interfaces ++ record { snap = snap; resolution = 9 } ∷ [])
  unfolding body_outcome interface_rules interface_of
  interface_outcome interfaces =
      let long : nat_lt (length (interface_bytes name snap)) 20 ≡ false = grind (arith, length-interface) in
      rw (interface_kind, long, link_type, options_are, good_options name name_fits, resolution name name_fits, snap_at) refl

  interface_step : (limit : ℕ) (before : Progress) (rest : List ℕ) → StandsIn limit before (interface_bytes name snap)
      → step limit before (interface_bytes name snap ++ rest) ≡ step_to before (before.place + block_size (interface_fields snap) [] (interface_options name)) Little (body_outcome Little before.interfaces (interface_bytes name snap))
  unfolding interface_bytes
  interface_step limit before rest fits =
      let short : padded (length name) ≤ length name + 3 = padded-le (length name) in
      let even = padded-even (length name) in
      written-step 1 (interface_fields snap) [] (interface_options name) (omega arith) (omega (arith, interface_size, short)) (omega (arith, interface_size, even)) (omega (arith, interface_size, short)) refl limit before rest fits

  pub interface-read_back : ReadsAsInterface snap (interface_bytes name snap)
  interface-read_back limit before rest fits =
      let size : block_size (interface_fields snap) [] (interface_options name) ≡ length (interface_bytes name snap) = interface_size ∙ sym length-interface in
      reading-skips limit before (interface_bytes name snap ++ rest) (behind_interface before snap (length (interface_bytes name snap))) rest
      (taken_whole before.place (interface_bytes name snap) rest)
      (interface_step limit before rest fits ∙ rw (interface_outcome before.interfaces, size) refl)

section_step : (limit : ℕ) (rest : List ℕ) → 28 ≤ limit → step limit at_start (section_bytes ++ rest) ≡ Skips (behind_section 28)
unfolding section_bytes block_bytes block_size padding padded step has_ended start_rules is_section magic_order order_of is_bad_size size_of u32_at u16_at block_step block_outcome body_outcome section_rules
section_step limit rest within =
    let test : nat_lt limit 28 ≡ false = grind (arith, within) in
    rw test refl

length-section : length section_bytes ≡ 28
unfolding section_bytes block_bytes block_size padding padded
length-section = refl

pub section-read_back : ReadsAsSection section_bytes
unfolding capture_of
section-read_back limit rest within =
    let size : length section_bytes ≡ 28 = length-section in
    reading-skips limit at_start (section_bytes ++ rest) (behind_section (length section_bytes)) rest
    (record { taken = section_bytes; left = refl; counted = omega arith })
    (rw size (section_step limit rest (omega (arith, within, size))))

verdict_length : (verdict : Option Action) → (length (verdict_option verdict) ≤ 16) × (length (verdict_option verdict) % 4 ≡ 0)
unfolding padded
verdict_length None = (omega arith, refl)
verdict_length (Some action) =
    let long : length (option_bytes 7 (2 ∷ u64_bytes (number action))) ≡ 16 = length-option 7 (2 ∷ u64_bytes (number action)) in
    (omega (arith, long), omega (arith, long))

id_length : (id : ℕ) → length (option_bytes 5 (u64_bytes id)) ≡ 12
unfolding padded
id_length id = length-option 5 (u64_bytes id)

queue_length : (queue : ℕ) → length (option_bytes 6 (u32_bytes queue)) ≡ 8
unfolding padded
queue_length queue = length-option 6 (u32_bytes queue)

-- the options of a packet are few
options_short : (told : PacketOptions) → told.publication < 2 ^ 32 → (length (packet_options told) ≤ 100) × (length (packet_options told) % 4 ≡ 0)
unfolding packet_options
options_short told fits =
    let text = codes "publication=" ++ decimal told.publication in
    let comment = option_bytes 1 text in
    let id = option_bytes 5 (u64_bytes told.id) in
    let queue = option_bytes 6 (u32_bytes told.queue) in
    let verdict = verdict_option told.verdict in
    let digits : length (decimal told.publication) ≤ 10 = length-decimal-le 10 told.publication (omega arith) (omega arith) (omega arith) in
    let texts : length text ≤ 22 = omega (arith, digits, length-append (codes "publication=") (decimal told.publication)) in
    let short : padded (length text) ≤ length text + 3 = padded-le (length text) in
    let even = padded-even (length text) in
    let asked = verdict_length told.verdict in
    let total : length (comment ++ id ++ queue ++ verdict ++ end_of_options) ≡ 28 + padded (length text) + length verdict =
    omega (arith, length-append (comment ++ id ++ queue ++ verdict) end_of_options, length-append (comment ++ id ++ queue) verdict, length-append (comment ++ id) queue, length-append comment id, length-option 1 text, id_length told.id, queue_length told.queue) in
    (omega (arith, total, short, texts, asked.0), omega (arith, total, even, asked.1))

-- the block of a packet has at most 135 bytes more than are kept
pub packet_size-short : (kept : List ℕ) (told : PacketOptions) → told.publication < 2 ^ 32 → packet_size kept told ≤ length kept + 135
unfolding packet_size
packet_size-short kept told fits = let few = options_short told fits in omega (arith, few.0, padded-le (length kept))

-- so it fits 32 bits, where that is far from 4 GiB
pub packet-fits : (kept : List ℕ) (told : PacketOptions) → told.publication < 2 ^ 32 → length kept ≤ 2 ^ 31 → packet_size kept told < 2 ^ 32
packet-fits kept told fits few = omega (arith, packet_size-short kept told fits)

nanoseconds-exact : (time : ℕ) → nanoseconds 9 time ≡ time
unfolding nanoseconds
nanoseconds-exact time = omega arith

module _ (interface timestamp original : ℕ) (kept : List ℕ) (told : PacketOptions) (number_fits : interface < 2 ^ 32) (time_fits : timestamp < 2 ^ 64) (publication_fits : told.publication < 2 ^ 32) (kept_fits : length kept ≤ 15872) where
  packet_size_is : block_size (packet_fields interface timestamp (length kept) original) kept (packet_options told) ≡ 32 + padded (length kept) + length (packet_options told)
  unfolding block_size
  packet_size_is = refl

  length-packet : length (packet_bytes interface timestamp original kept told) ≡ 32 + padded (length kept) + length (packet_options told)
  unfolding packet_bytes
  length-packet = length-block 6 (packet_fields interface timestamp (length kept) original) kept (packet_options told) ∙ packet_size_is

  packet_kind : u32_at Little (packet_bytes interface timestamp original kept told) 0 ≡ 6
  unfolding u32_at packet_bytes block_bytes
  packet_kind = little_number-reads_back 4 6 [] (omega arith)

  number_at : u32_at Little (packet_bytes interface timestamp original kept told) 8 ≡ interface
  unfolding u32_at packet_bytes block_bytes
  number_at = little_number-reads_back 4 interface [] number_fits

  high_at : u32_at Little (packet_bytes interface timestamp original kept told) 12 ≡ timestamp / 2 ^ 32
  unfolding u32_at packet_bytes block_bytes
  high_at = little_number-reads_back 4 (timestamp / 2 ^ 32) [] (omega arith)

  low_at : u32_at Little (packet_bytes interface timestamp original kept told) 16 ≡ timestamp % 2 ^ 32
  unfolding u32_at packet_bytes block_bytes
  low_at = little_number-reads_back 4 (timestamp % 2 ^ 32) [] (omega arith)

  kept_at : u32_at Little (packet_bytes interface timestamp original kept told) 20 ≡ length kept
  unfolding u32_at packet_bytes block_bytes
  kept_at = little_number-reads_back 4 (length kept) [] (omega arith)

  -- what the block says of its packet
  claim_is : enhanced_claim Little (packet_bytes interface timestamp original kept told) ≡ record { interface = interface; time = timestamp; captured = length kept; start = 28 }
  unfolding enhanced_claim
  claim_is =
      let time : timestamp / 2 ^ 32 * 2 ^ 32 + timestamp % 2 ^ 32 ≡ timestamp = omega arith in
      rw (number_at, high_at, low_at, kept_at, time) refl

  frame_is : frame_of (packet_bytes interface timestamp original kept told) (record { interface = interface; time = timestamp; captured = length kept; start = 28 }) ≡ kept
  unfolding frame_of packet_bytes block_bytes
  frame_is =
      let zeros = padding (length kept) in
      let options = packet_options told in
      let last = u32_bytes (block_size (packet_fields interface timestamp (length kept) original) kept (packet_options told)) in
      let split : kept ++ zeros ++ options ++ last ≡ kept ++ (zeros ++ (options ++ last)) = append_assoc (kept ++ zeros) options last ∙ append_assoc kept zeros (options ++ last) in
      ap (take (28 + length kept - 28)) split ∙ take_at kept (zeros ++ (options ++ last)) (28 + length kept - 28) (omega arith)

  packet_brings : (interfaces : List Interface) (snap : ℕ) → slice_get interfaces interface ≡ Some (record { snap = snap; resolution = 9 }) → 14 ≤ length kept
      → body_outcome Little interfaces (packet_bytes interface timestamp original kept told) ≡ Brings timestamp kept interfaces
  unfolding body_outcome packet_outcome packet_rules time_of
  packet_brings interfaces snap there some =
      let long : nat_lt (length (packet_bytes interface timestamp original kept told)) 32 ≡ false = grind (arith, length-packet) in
      let whole : nat_lt (length (packet_bytes interface timestamp original kept told)) (28 + padded (length kept) + 4) ≡ false = grind (arith, length-packet) in
      let least : nat_le 14 (length kept) ≡ true = grind (arith, some) in
      let most : nat_le (length kept) 15872 ≡ true = grind (arith, kept_fits) in
      let early : nat_lt timestamp (2 ^ 64) ≡ true = grind (arith, time_fits) in
      rw (packet_kind, claim_is, frame_is, there, nanoseconds-exact timestamp, long, whole, least, most, early) refl

  packet_step : (limit : ℕ) (before : Progress) (rest : List ℕ) → StandsIn limit before (packet_bytes interface timestamp original kept told)
      → step limit before (packet_bytes interface timestamp original kept told ++ rest) ≡ step_to before (before.place + block_size (packet_fields interface timestamp (length kept) original) kept (packet_options told)) Little (body_outcome Little before.interfaces (packet_bytes interface timestamp original kept told))
  unfolding packet_bytes
  packet_step limit before rest fits =
      let short : padded (length kept) ≤ length kept + 3 = padded-le (length kept) in
      let even = padded-even (length kept) in
      let few = options_short told publication_fits in
      written-step 6 (packet_fields interface timestamp (length kept) original) kept (packet_options told) (omega arith) (omega (arith, packet_size_is, short, few.0)) (omega (arith, packet_size_is, even, few.1)) (omega (arith, packet_size_is, short, few.0)) refl limit before rest fits

pub packet-read_back : (interface timestamp original : ℕ) (kept : List ℕ) (told : PacketOptions) → interface < 2 ^ 32 → timestamp < 2 ^ 64 → told.publication < 2 ^ 32 → ReadsAsPacket interface timestamp kept (packet_bytes interface timestamp original kept told)
packet-read_back interface timestamp original kept told number_fits time_fits publication_fits limit before rest fits is_packet =
    let bytes = packet_bytes interface timestamp original kept told in
    let size : block_size (packet_fields interface timestamp (length kept) original) kept (packet_options told) ≡ length bytes =
    packet_size_is interface timestamp original kept told number_fits time_fits publication_fits is_packet.bounded
    ∙ sym (length-packet interface timestamp original kept told number_fits time_fits publication_fits is_packet.bounded) in
    let brings = packet_brings interface timestamp original kept told number_fits time_fits publication_fits is_packet.bounded before.interfaces is_packet.snap is_packet.interface is_packet.some in
    reading-gives limit before (bytes ++ rest) (behind_packet before (length bytes)) rest (taken_whole before.place bytes rest)
    (record { timestamp = timestamp; frame = kept; end = before.place + length bytes })
    (packet_step interface timestamp original kept told number_fits time_fits publication_fits is_packet.bounded limit before rest fits ∙ rw (brings, size) refl)
