-- A trace that is printed reads back as the counts of its packets.
use Rattle.std.proofs.Common.{◌≡◌, ℕ, ◌+◌, ◌-◌, ◌*◌, ◌/◌, ◌%◌, ◌^◌, ◌<◌, ◌≤◌, ◌==◌, zero, suc, Bool, true, false, List, [], ◌∷◌, ◌++◌, length, map, replicate, append-nil, append_assoc, length-append, Some, Ok, inl, inr, refl, sym, ap, ◌∙◌, arith, eq-eqb}
use Rattle.std.proofs.lemmas.Bool.{and_parts, cases_Bool, true≢false}
use Rattle.std.proofs.lemmas.Bool.Decides.{nat_tests}
use Rattle.std.proofs.lemmas.Fmt.{decimal_digit, decimal_is_IsNumeral, first_decimal}
use Rattle.std.proofs.lemmas.List.Folds.{list_all_at}
use Rattle.std.proofs.lemmas.List.Splits.{length-slice_split, slice_split-cons_no, slice_split-cons_yes}
use Rattle.std.proofs.lemmas.Slice.Eq.{bytes_eq-Decides}
use Rattle.std.proofs.lemmas.Str.Parse.{digit_from_value}
use Rattle.std.specs.Fmt.{decimal}
use Rattle.std.specs.List.{list_all, onto_first}
use Rattle.std.specs.Prelude.{codes, nat_lt, slice_get, slice_index}
use Rattle.std.specs.Str.{bytes_eq}
use Rattle.std.specs.Str.Parse.{AllDigits}
use Rattle.hex.proofs.HexLemmas.{length-encode_with}
use Rattle.hex.specs.Hex.{IsBytes, encode_lower, encode_with, lower_digits}
use Rattle.script_text.proofs.ReadBack.{numbers_back}
use Rattle.script_text.proofs.TraceLemmas.{last-one}
use Rattle.script_text.specs.Numbers.{has_zero_in_front, printed_number}
use Rattle.script_text.specs.Trace.{heading, last_line, packet_trace, packets_trace, phases_trace, processors_trace, trace_line, whole_trace}
use Rattle.script_text.specs.TraceRead.{AreTraceable, AreTraceableIn, AreTraceableOn, IsTraceable, TraceCounts, are_printed_pairs, counted_on, counts_in, counts_on, is_heading, is_next, is_printed_digit, is_way, no_counts, phases_in, read_from, row_of, trace_read, with_line, with_phase, with_row}
use Rattle.script_text.specs.Vocabulary.{action_name, action_of}
use Rattle.script_text.specs.Words.{parts_of}
use Rattle.script_text.specs.declared.trace_row.CountRow.{CountRow}
use Rattle.xdp_state.specs.declared.carried.Carried.{Carried}
use Rattle.xio.specs.declared.action.Action.{Action}
use Rattle.xio.specs.declared.action.Action.TheVariants.{Aborted, Drop, Pass, Tx, Redirect}

-- bytes without a space or a line feed, and bytes without a line feed
abbrev Word : List ℕ → Type 0
Word bytes = list_all (λ b. nat_lt 32 b) bytes ≡ true

abbrev Line : List ℕ → Type 0
Line bytes = list_all (λ b. nat_lt 31 b) bytes ≡ true

split_at : (low separator : ℕ) (part rest : List ℕ) → separator ≤ low → list_all (λ b. nat_lt low b) part ≡ true → parts_of separator (part ++ separator ∷ rest) ≡ part ∷ parts_of separator rest
split_at low separator [] rest le clean = slice_split-cons_yes (λ b. b == separator) separator rest (eq-eqb separator separator refl)
split_at low separator (b ∷ part) rest le clean =
    let both = and_parts (nat_lt low b) (list_all (λ x. nat_lt low x) part) clean in
    let above : nat_lt low b ≡ true = both.0 in
    let other : (b == separator) ≡ false = grind (arith, nat_tests, above, le) in
    slice_split-cons_no (λ x. x == separator) b (part ++ separator ∷ rest) other ∙ ap (onto_first b) (split_at low separator part rest le both.1)

split_none : (low separator : ℕ) (part : List ℕ) → separator ≤ low → list_all (λ b. nat_lt low b) part ≡ true → parts_of separator part ≡ part ∷ []
split_none low separator [] le clean = refl
split_none low separator (b ∷ part) le clean =
    let both = and_parts (nat_lt low b) (list_all (λ x. nat_lt low x) part) clean in
    let above : nat_lt low b ≡ true = both.0 in
    let other : (b == separator) ≡ false = grind (arith, nat_tests, above, le) in
    slice_split-cons_no (λ x. x == separator) b part other ∙ ap (onto_first b) (split_none low separator part le both.1)

word-line : (word : List ℕ) → Word word → Line word
word-line [] clean = refl
word-line (b ∷ word) clean =
    let both = and_parts (nat_lt 32 b) (list_all (λ x. nat_lt 32 x) word) clean in
    let above : nat_lt 32 b ≡ true = both.0 in
    let first : nat_lt 31 b ≡ true = grind (arith, nat_tests, above) in
    rw first (word-line word both.1)

-- a word, a space, and more
joined : (word rest : List ℕ) → Word word → Line rest → Line (word ++ 32 ∷ rest)
joined [] rest clean line = line
joined (b ∷ word) rest clean line =
    let both = and_parts (nat_lt 32 b) (list_all (λ x. nat_lt 32 x) word) clean in
    let above : nat_lt 32 b ≡ true = both.0 in
    let first : nat_lt 31 b ≡ true = grind (arith, nat_tests, above) in
    rw first (joined word rest both.1 line)

-- a line of several words isn't the last one
not_end : (text : List ℕ) → 1 < length (parts_of 32 text) → bytes_eq text (codes "end") ≡ false
not_end text many = elim (cases_Bool (bytes_eq text (codes "end"))) [
  | inl same ↦
      let is : text ≡ codes "end" = (bytes_eq-Decides text (codes "end")).0 same in
      let one : length (parts_of 32 text) ≡ 1 = ap (λ t. length (parts_of 32 t)) is in
      absurd (omega (arith, one, many))
  | inr other ↦ other
]

-- a line that may stand there
line_step : (read next : TraceCounts) (line : ℕ) (text rest : List ℕ) → Line text → bytes_eq text (codes "end") ≡ false → with_line read text ≡ Some next → read_from read line (parts_of 10 (text ++ 10 ∷ rest)) ≡ read_from next (line + 1) (parts_of 10 rest)
line_step read next line text rest clean other goes =
    let some : (length (parts_of 10 rest) == 0) ≡ false = grind (arith, nat_tests, length-slice_split (λ b. b == 10) rest) in
    rw (split_at 31 10 text rest (omega arith) clean, some, other, goes) refl

-- numbers
digits_word : (digits : List ℕ) → AllDigits 10 digits → Word digits
digits_word [] all = refl
digits_word (digit ∷ digits) all =
    let range = digit_from_value digit all.0 in
    let first : nat_lt 32 digit ≡ true = grind (arith, nat_tests, range) in
    rw first (digits_word digits all.1)

decimal_word : (n : ℕ) → n < 2 ^ 32 → Word (decimal n)
decimal_word n small = digits_word (decimal n) (decimal_is_IsNumeral n (omega (arith, small))).0.1

no_zero : (n : ℕ) → n < 2 ^ 32 → has_zero_in_front (decimal n) ≡ false
no_zero zero small = rw (decimal_digit 0 (omega arith)) refl
no_zero (suc n) small =
    let first = first_decimal (suc n) (omega arith) (omega (arith, small)) in
    grind (arith, nat_tests, first)

printed_back : (n : ℕ) → n < 2 ^ 32 → printed_number (decimal n) ≡ Some n
unfolding printed_number
printed_back n small =
    rw (no_zero n small, numbers_back n (omega (arith, small))) (grind (arith, nat_tests, small))

-- frames
digit_passes : (p : ℕ → Bool) (k : ℕ) → list_all p lower_digits ≡ true → k < 16 → p (slice_index lower_digits k) ≡ true
digit_passes p k all small = elim (cases_Bool (p (slice_index lower_digits k))) [
  | inl passes ↦ passes
  | inr fails ↦ absurd (true≢false (sym all ∙ list_all_at p lower_digits k 0 (omega (arith, small)) fails))
]

digits_pass : (p : ℕ → Bool) → list_all p lower_digits ≡ true → (frame : List ℕ) → IsBytes frame → list_all p (encode_lower frame) ≡ true
unfolding encode_with
digits_pass p all [] bytes = refl
digits_pass p all (byte ∷ frame) bytes =
    let below : byte < 256 = bytes 0 in
    let high = digit_passes p (byte / 16) all (omega (arith, below)) in
    let low = digit_passes p (byte % 16) all (omega arith) in
    rw (high, low) (digits_pass p all frame (λ i. bytes (suc i)))

pairs_back : (frame : List ℕ) → IsBytes frame → 0 < length frame → are_printed_pairs (encode_lower frame) ≡ true
unfolding are_printed_pairs
pairs_back frame bytes some =
    let all = digits_pass is_printed_digit refl frame bytes in
    let size : length (encode_lower frame) ≡ 2 * length frame = length-encode_with lower_digits frame in
    let even : length (encode_lower frame) % 2 ≡ 0 = omega (arith, size) in
    rw (all, even) (grind (arith, nat_tests, size, some))

-- verdicts
name_word : (action : Action) → Word (action_name action)
name_word Aborted = refl
name_word Drop = refl
name_word Pass = refl
name_word Tx = refl
name_word Redirect = refl

name_back : (action : Action) → action_of (action_name action) ≡ Some action
name_back Aborted = refl
name_back Drop = refl
name_back Pass = refl
name_back Tx = refl
name_back Redirect = refl

-- the words of a packet's line
abbrev row_text : List ℕ → List ℕ → List ℕ → List ℕ → List ℕ → List ℕ → List ℕ → List ℕ
row_text a b c d e f g = a ++ 32 ∷ (b ++ 32 ∷ (c ++ 32 ∷ (d ++ 32 ∷ (e ++ 32 ∷ (f ++ 32 ∷ g)))))

seven_words : (a b c d e f g : List ℕ) → Word a → Word b → Word c → Word d → Word e → Word f → Word g → parts_of 32 (row_text a b c d e f g) ≡ a ∷ b ∷ c ∷ d ∷ e ∷ f ∷ g ∷ []
seven_words a b c d e f g wa wb wc wd we wf wg =
    split_at 32 32 a (b ++ 32 ∷ (c ++ 32 ∷ (d ++ 32 ∷ (e ++ 32 ∷ (f ++ 32 ∷ g))))) (omega arith) wa ∙ ap (λ p. a ∷ p)
    (split_at 32 32 b (c ++ 32 ∷ (d ++ 32 ∷ (e ++ 32 ∷ (f ++ 32 ∷ g)))) (omega arith) wb ∙ ap (λ p. b ∷ p)
    (split_at 32 32 c (d ++ 32 ∷ (e ++ 32 ∷ (f ++ 32 ∷ g))) (omega arith) wc ∙ ap (λ p. c ∷ p)
    (split_at 32 32 d (e ++ 32 ∷ (f ++ 32 ∷ g)) (omega arith) wd ∙ ap (λ p. d ∷ p)
    (split_at 32 32 e (f ++ 32 ∷ g) (omega arith) we ∙ ap (λ p. e ∷ p)
    (split_at 32 32 f g (omega arith) wf ∙ ap (λ p. f ∷ p) (split_none 32 32 g (omega arith) wg))))))

seven_line : (a b c d e f g : List ℕ) → Word a → Word b → Word c → Word d → Word e → Word f → Word g → Line (row_text a b c d e f g)
seven_line a b c d e f g wa wb wc wd we wf wg =
    joined a _ wa (joined b _ wb (joined c _ wc (joined d _ wd (joined e _ we (joined f _ wf (word-line g wg))))))

seven_ended : (a b c d e f g rest : List ℕ) → (a ++ 32 ∷ (b ++ 32 ∷ (c ++ 32 ∷ (d ++ 32 ∷ (e ++ 32 ∷ (f ++ 32 ∷ (g ++ 10 ∷ []))))))) ++ rest ≡ row_text a b c d e f g ++ 10 ∷ rest
seven_ended a b c d e f g rest = simp append_assoc

abbrev text_of : ℕ → ℕ → Carried → List ℕ
text_of processor place packet =
    row_text (decimal processor) (decimal place) (decimal packet.count) (action_name packet.traversal.verdict)
    (decimal packet.traversal.target) (decimal (length packet.traversal.frame)) (encode_lower packet.traversal.frame)

abbrev row_for : ℕ → ℕ → Carried → CountRow
row_for processor place packet = record { processor = processor; place = place; count = packet.count }

-- what is known of a packet's line
record Row (processor place : ℕ) (packet : Carried) : Type 0 where
  parts : parts_of 32 (text_of processor place packet) ≡ decimal processor ∷ decimal place ∷ decimal packet.count
      ∷ action_name packet.traversal.verdict ∷ decimal packet.traversal.target ∷ decimal (length packet.traversal.frame)
      ∷ encode_lower packet.traversal.frame ∷ []
  line : Line (text_of processor place packet)

row_known : (processor place : ℕ) (packet : Carried) → processor < 2 ^ 32 → place < 2 ^ 32 → IsTraceable packet → Row processor place packet
row_known processor place packet first second is =
    let a = decimal_word processor first in
    let b = decimal_word place second in
    let c = decimal_word packet.count is.count in
    let d = name_word packet.traversal.verdict in
    let e = decimal_word packet.traversal.target is.target in
    let f = decimal_word (length packet.traversal.frame) is.size in
    let g = digits_pass (λ x. nat_lt 32 x) refl packet.traversal.frame is.bytes in
    record {
      parts = seven_words (decimal processor) (decimal place) (decimal packet.count) (action_name packet.traversal.verdict) (decimal packet.traversal.target) (decimal (length packet.traversal.frame)) (encode_lower packet.traversal.frame) a b c d e f g;
      line = seven_line (decimal processor) (decimal place) (decimal packet.count) (action_name packet.traversal.verdict) (decimal packet.traversal.target) (decimal (length packet.traversal.frame)) (encode_lower packet.traversal.frame) a b c d e f g;
    }

way_back : (packet : Carried) → IsTraceable packet → is_way (action_name packet.traversal.verdict ∷ decimal packet.traversal.target ∷ decimal (length packet.traversal.frame) ∷ encode_lower packet.traversal.frame ∷ []) ≡ true
unfolding is_way
way_back packet is =
    rw (name_back packet.traversal.verdict, printed_back packet.traversal.target is.target, printed_back (length packet.traversal.frame) is.size, pairs_back packet.traversal.frame is.bytes is.some) refl

row_back : (processor place : ℕ) (packet : Carried) → processor < 2 ^ 32 → place < 2 ^ 32 → IsTraceable packet → Row processor place packet → row_of (text_of processor place packet) ≡ Some (row_for processor place packet)
unfolding row_of
row_back processor place packet first second is row =
    rw (row.parts, way_back packet is, printed_back processor first, printed_back place second, printed_back packet.count is.count) refl

not_heading : (number processor place : ℕ) (packet : Carried) → Row processor place packet → is_heading number (text_of processor place packet) ≡ false
unfolding is_heading
not_heading number processor place packet row = rw row.parts refl

row_goes : (read : TraceCounts) (processor place : ℕ) (packet : Carried) → processor < 2 ^ 32 → place < 2 ^ 32 → IsTraceable packet → Row processor place packet → is_next read.processor read.last (row_for processor place packet) ≡ true → with_line read (text_of processor place packet) ≡ Some (with_row read (row_for processor place packet))
unfolding with_line
row_goes read processor place packet first second is row next =
    rw (not_heading (length (phases_in read)) processor place packet row, row_back processor place packet first second is row, next) refl

line_ended : (processor place : ℕ) (packet : Carried) (rest : List ℕ) → packet_trace processor place packet ++ rest ≡ text_of processor place packet ++ 10 ∷ rest
unfolding trace_line
line_ended processor place packet rest =
    seven_ended (decimal processor) (decimal place) (decimal packet.count) (action_name packet.traversal.verdict) (decimal packet.traversal.target) (decimal (length packet.traversal.frame)) (encode_lower packet.traversal.frame) rest

packet_step : (read : TraceCounts) (line processor place : ℕ) (packet : Carried) (rest : List ℕ) → processor < 2 ^ 32 → place < 2 ^ 32 → IsTraceable packet → is_next read.processor read.last (row_for processor place packet) ≡ true → read_from read line (parts_of 10 (packet_trace processor place packet ++ rest)) ≡ read_from (with_row read (row_for processor place packet)) (line + 1) (parts_of 10 rest)
packet_step read line processor place packet rest first second is next =
    let row = row_known processor place packet first second is in
    let seven : length (parts_of 32 (text_of processor place packet)) ≡ 7 = ap length row.parts in
    let many : 1 < length (parts_of 32 (text_of processor place packet)) = omega (arith, seven) in
    ap (λ text. read_from read line (parts_of 10 text)) (line_ended processor place packet rest)
    ∙ line_step read (with_row read (row_for processor place packet)) line (text_of processor place packet) rest row.line (not_end (text_of processor place packet) many) (row_goes read processor place packet first second is row next)

-- headings
heading_parts : (number : ℕ) → number < 2 ^ 32 → parts_of 32 (codes "phase" ++ 32 ∷ decimal number) ≡ codes "phase" ∷ decimal number ∷ []
heading_parts number small =
    split_at 32 32 (codes "phase") (decimal number) (omega arith) refl ∙ ap (λ p. codes "phase" ∷ p) (split_none 32 32 (decimal number) (omega arith) (decimal_word number small))

heading_is : (number : ℕ) → number < 2 ^ 32 → is_heading number (codes "phase" ++ 32 ∷ decimal number) ≡ true
unfolding is_heading
heading_is number small = rw (split_none 32 32 (decimal number) (omega arith) (decimal_word number small), printed_back number small) (eq-eqb number number refl)

heading_goes : (read : TraceCounts) (number : ℕ) → length (phases_in read) ≡ number → number < 2 ^ 32 → with_line read (codes "phase" ++ 32 ∷ decimal number) ≡ Some (with_phase read)
unfolding with_line
heading_goes read number is small = rw (is, heading_is number small) refl

heading_step : (read : TraceCounts) (line number : ℕ) (rest : List ℕ) → length (phases_in read) ≡ number → number < 2 ^ 32 → read_from read line (parts_of 10 (heading number ++ rest)) ≡ read_from (with_phase read) (line + 1) (parts_of 10 rest)
heading_step read line number rest is small =
    let text = codes "phase" ++ 32 ∷ decimal number in
    let ended : heading number ++ rest ≡ text ++ 10 ∷ rest = ap (λ t. codes "phase " ++ t) (append_assoc (decimal number) (codes "\n") rest) in
    let two : length (parts_of 32 text) ≡ 2 = ap length (heading_parts number small) in
    let many : 1 < length (parts_of 32 text) = omega (arith, two) in
    ap (λ t. read_from read line (parts_of 10 t)) ended
    ∙ line_step read (with_phase read) line text rest (joined (codes "phase") (decimal number) refl (word-line (decimal number) (decimal_word number small))) (not_end text many) (heading_goes read number is small)

-- a processor's list among those of a phase
counts_at : (before : List (List ℕ)) (counts : List ℕ) (behind : List (List ℕ)) (processor : ℕ) → length before ≡ processor → slice_get (before ++ counts ∷ behind) processor ≡ Some counts
counts_at [] counts behind zero is = refl
counts_at [] counts behind (suc processor) is = absurd (omega (arith, is))
counts_at (b ∷ before) counts behind zero is = absurd (omega (arith, is))
counts_at (b ∷ before) counts behind (suc processor) is = counts_at before counts behind processor (omega (arith, is))

counted-at : (before : List (List ℕ)) (counts : List ℕ) (behind : List (List ℕ)) (processor count : ℕ) → length before ≡ processor → counted_on processor count (before ++ counts ∷ behind) ≡ before ++ (counts ++ count ∷ []) ∷ behind
counted-at [] counts behind zero count is = refl
counted-at [] counts behind (suc processor) count is = absurd (omega (arith, is))
counted-at (b ∷ before) counts behind zero count is = absurd (omega (arith, is))
counted-at (b ∷ before) counts behind (suc processor) count is = ap (λ more. b ∷ more) (counted-at before counts behind processor count (omega (arith, is)))

next_is : (at processor place : ℕ) (before : List (List ℕ)) (counts : List ℕ) (behind : List (List ℕ)) (packet : Carried) → length before ≡ processor → at ≤ processor → length counts ≡ place → is_next at (before ++ counts ∷ behind) (row_for processor place packet) ≡ true
next_is at processor place before counts behind packet is le many =
    rw (counts_at before counts behind processor is, many) (grind (arith, nat_tests, le))

-- some text was read, and these counts are what was read of it
record ReadsText (read : TraceCounts) (line : ℕ) (text rest : List ℕ) (ended : List (List (List ℕ))) (last : List (List ℕ)) (most : ℕ) : Type 0 where
  now : ℕ
  behind : ℕ
  within : now ≤ most
  same : read_from read line (parts_of 10 (text ++ rest)) ≡ read_from (record { ended = ended; last = last; processor = now }) behind (parts_of 10 rest)

packets_read : (ended : List (List (List ℕ))) (before behind : List (List ℕ)) (processor place : ℕ) (packets : List Carried) (counts : List ℕ) (at line : ℕ) (rest : List ℕ) → length before ≡ processor → processor < 8 → at ≤ processor → length counts ≡ place → place + length packets < 2 ^ 32 → AreTraceable packets → ReadsText (record { ended = ended; last = before ++ counts ∷ behind; processor = at }) line (packets_trace processor place packets) rest ended (before ++ (counts ++ counts_on packets) ∷ behind) processor
packets_read ended before behind processor place [] counts at line rest is below le many few are =
    record { now = at; behind = line; within = le; same = rw (append-nil counts) refl }
packets_read ended before behind processor place (packet ∷ packets) counts at line rest is below le many few are =
    let read : TraceCounts = record { ended = ended; last = before ++ counts ∷ behind; processor = at } in
    let grown : length (counts ++ packet.count ∷ []) ≡ place + 1 = omega (arith, length-append counts (packet.count ∷ []), many) in
    let more = packets_read ended before behind processor (place + 1) packets (counts ++ packet.count ∷ []) processor (line + 1) rest is below (omega arith) grown (omega (arith, few)) are.1 in
    let first = packet_step read line processor place packet (packets_trace processor (place + 1) packets ++ rest) (omega (arith, below)) (omega (arith, few)) are.0 (next_is at processor place before counts behind packet is le many) in
    record {
      now = more.now;
      behind = more.behind;
      within = more.within;
      same = ap (λ text. read_from read line (parts_of 10 text)) (append_assoc (packet_trace processor place packet) (packets_trace processor (place + 1) packets) rest)
          ∙ (first ∙ (ap (λ lists. read_from (record { ended = ended; last = lists; processor = processor }) (line + 1) (parts_of 10 (packets_trace processor (place + 1) packets ++ rest))) (counted-at before counts behind processor packet.count is)
          ∙ (more.same ∙ ap (λ cs. read_from (record { ended = ended; last = before ++ cs ∷ behind; processor = more.now }) more.behind (parts_of 10 rest)) (append_assoc counts (packet.count ∷ []) (counts_on packets)))));
    }

processors_read : (ended : List (List (List ℕ))) (done : List (List ℕ)) (carried : List (List Carried)) (left many processor at line : ℕ) (rest : List ℕ) → length done ≡ processor → length carried + left ≡ many → processor + many ≡ 8 → at ≤ processor → AreTraceableOn carried → ReadsText (record { ended = ended; last = done ++ replicate many []; processor = at }) line (processors_trace processor carried) rest ended (done ++ (map counts_on carried ++ replicate left [])) 8
processors_read ended done [] left many processor at line rest is sum eight le are =
    let same : many ≡ left = omega (arith, sum) in
    record { now = at; behind = line; within = omega (arith, le, eight); same = rw same refl }
processors_read ended done (packets ∷ more) left zero processor at line rest is sum eight le are = absurd (omega (arith, sum))
processors_read ended done (packets ∷ more) left (suc many) processor at line rest is sum eight le are =
    let first = packets_read ended done (replicate many []) processor 0 packets [] at line (processors_trace (processor + 1) more ++ rest) is (omega (arith, eight)) le refl (omega (arith, are.0)) are.1 in
    let grown : length (done ++ counts_on packets ∷ []) ≡ processor + 1 = omega (arith, length-append done (counts_on packets ∷ []), is) in
    let next = processors_read ended (done ++ counts_on packets ∷ []) more left many (processor + 1) first.now first.behind rest grown (omega (arith, sum)) (omega (arith, eight)) (omega (arith, first.within)) are.2 in
    record {
      now = next.now;
      behind = next.behind;
      within = next.within;
      same = ap (λ text. read_from (record { ended = ended; last = done ++ replicate (suc many) []; processor = at }) line (parts_of 10 text)) (append_assoc (packets_trace processor 0 packets) (processors_trace (processor + 1) more) rest)
          ∙ (first.same
          ∙ (ap (λ lists. read_from (record { ended = ended; last = lists; processor = first.now }) first.behind (parts_of 10 (processors_trace (processor + 1) more ++ rest))) (sym (append_assoc done (counts_on packets ∷ []) (replicate many [])))
          ∙ (next.same
          ∙ ap (λ lists. read_from (record { ended = ended; last = lists; processor = next.now }) next.behind (parts_of 10 rest)) (append_assoc done (counts_on packets ∷ []) (map counts_on more ++ replicate left [])))));
    }

length-counts : (carried : List (List Carried)) → length carried ≤ 8 → 0 < length (counts_in carried)
length-counts [] few = omega arith
length-counts (packets ∷ carried) few = omega arith

phases_read : (phases : List (List (List Carried))) (number : ℕ) (read : TraceCounts) (line : ℕ) → length (phases_in read) ≡ number → number + length phases < 2 ^ 32 → AreTraceableIn phases → read_from read line (parts_of 10 (phases_trace number phases ++ last_line)) ≡ Ok (phases_in read ++ map counts_in phases)
phases_read [] number read line is few are = ap Ok (sym (append-nil (phases_in read)))
phases_read (carried ∷ more) number read line is few are =
    let left = 8 - length carried in
    let ended = phases_in read in
    let sum : length carried + left ≡ 8 = omega (arith, are.0) in
    let rest = phases_trace (number + 1) more ++ last_line in
    let phase = processors_read ended [] carried left 8 0 0 (line + 1) rest refl sum refl (omega arith) are.1 in
    let now : TraceCounts = record { ended = ended; last = counts_in carried; processor = phase.now } in
    let grown : phases_in now ≡ ended ++ counts_in carried ∷ [] = ap (λ lists. ended ++ lists) (last-one (counts_in carried) (length-counts carried are.0)) in
    let many : length (phases_in now) ≡ number + 1 = omega (arith, ap length grown, length-append ended (counts_in carried ∷ []), is) in
    ap (λ text. read_from read line (parts_of 10 text)) (append_assoc (heading number) (processors_trace 0 carried ++ phases_trace (number + 1) more) last_line)
    ∙ (heading_step read line number ((processors_trace 0 carried ++ phases_trace (number + 1) more) ++ last_line) is (omega (arith, few))
    ∙ (ap (λ text. read_from (with_phase read) (line + 1) (parts_of 10 text)) (append_assoc (processors_trace 0 carried) (phases_trace (number + 1) more) last_line)
    ∙ (phase.same
    ∙ (phases_read more (number + 1) now phase.behind many (omega (arith, few)) are.2
    ∙ ap Ok (ap (λ lists. lists ++ map counts_in more) grown ∙ append_assoc ended (counts_in carried ∷ []) (map counts_in more))))))

pub traces_back : (phases : List (List (List Carried))) → length phases < 2 ^ 32 → AreTraceableIn phases → trace_read (whole_trace phases) ≡ Ok (map counts_in phases)
unfolding trace_read
traces_back phases few are =
    let rest = phases_trace 0 phases ++ last_line in
    let some : (length (parts_of 10 rest) == 0) ≡ false = grind (arith, nat_tests, length-slice_split (λ b. b == 10) rest) in
    rw some (phases_read phases 0 no_counts 2 refl (omega (arith, few)) are)
