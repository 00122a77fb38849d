-- One file that is opened, read and closed: what its reads as a source say of the object of files.
use Rattle.std.proofs.Common.{◌≡◌, ◌≢◌, ℕ, ◌+◌, List, [], ◌++◌, length, take, Result, Ok, Err, refl, sym, ◌∙◌, ap, subst, inr, arith}
use Rattle.std.proofs.lemmas.Grind.{common_steps}
use Rattle.std.proofs.Math.Seq.{take-append_seam}
use Rattle.std.proofs.lemmas.List.{length-append}
use Rattle.xio.specs.Handles.{Handle, Closed, set_at}
use Rattle.xio.specs.Streams.{ReadsAll}
use Rattle.xio.specs.Told.{Told, rest_of, after_open, taken_whole}
use Rattle.xio.specs.ReadFile.{ReadsFile, AsksFor, AsksFile, UpToFault, end_of}
use Rattle.xio.specs.declared.files.FileFault.{FileFault}
use Rattle.xio.specs.declared.files.FileFault.TheVariants as fault
use Rattle.xio.specs.declared.read_end.ReadEnd.{ReadEnd}
use Rattle.xio.specs.declared.read_end.ReadEnd.TheVariants.{ReadFault, TooLarge, OutOfMemory}
use Rattle.xio.proofs.PrefixLemmas.{prefix_front}
use Rattle.xio.proofs.SetLemmas.{set_at-same, set_at-at, set_at-other, set_at-elsewhere}

-- a file is opened at its first byte
rest_of-after_open : (t : Told) (name : List ℕ) (n : ℕ) → rest_of (after_open t name (Ok n)) n ≡ t.content name
rest_of-after_open t name n = rw (set_at-same t.call_of n (length t.asked), set_at-same t.places (length t.asked) 0, set_at-same t.name_of n name) refl

-- a source read whole is the file
reads_file : (limit : ℕ) (content rest into into' : List ℕ) (result : Result Unit ReadEnd) → ReadsAll limit content rest into into' result → ReadsFile limit content into into' result
reads_file limit content rest into into' (Ok _) (whole, _, within) = (whole, within)
reads_file limit content rest into into' (Err ReadFault) moves = rw (moves.put, moves.left) (prefix_front into moves.taken rest)
reads_file limit content rest into into' (Err (TooLarge n)) large = large
reads_file limit content rest into into' (Err OutOfMemory) prefix = prefix

-- the call under which reads leave the file
call_of-read : (t t' : Told) (name : List ℕ) (n : ℕ) → taken_whole t' n ≡ taken_whole (after_open t name (Ok n)) n → t'.call_of n ≡ length t.asked
call_of-read t t' name n same = ap (λ (u : Told). u.call_of n) same ∙ set_at-same t.call_of n (length t.asked)

-- every other place stays
place-elsewhere : (t t' : Told) (name : List ℕ) (n : ℕ) → taken_whole t' n ≡ taken_whole (after_open t name (Ok n)) n
    → (m : ℕ) → m ≢ length t.asked → t'.places m ≡ t.places m
place-elsewhere t t' name n same m other =
    let k = length t.asked in
    let at : t'.call_of n ≡ k = call_of-read t t' name n same in
    let own : set_at t.call_of n k n ≡ k = set_at-same t.call_of n k in
    sym (set_at-other t'.places (t'.call_of n) _ m (λ e. other (e ∙ at))) ∙ ap (λ (u : Told). u.places m) same
    ∙ set_at-other (set_at t.places k 0) (set_at t.call_of n k n) _ m (λ e. other (e ∙ own)) ∙ set_at-other t.places k 0 m other

-- reads of an opened file change no more than its place
asks_for : (handles : ℕ → Handle) (t t' : Told) (name : List ℕ) (n : ℕ) → handles n ≡ Closed → taken_whole t' n ≡ taken_whole (after_open t name (Ok n)) n
    → AsksFor handles t t' name (t'.places (length t.asked))
asks_for handles t t' name n closed same = record {
  content = ap (λ (u : Told). u.content) same;
  flushed = ap (λ (u : Told). u.flushed) same;
  asked = ap (λ (u : Told). u.asked) same;
  made = ap (λ (u : Told). u.made) same;
  places = set_at-elsewhere t'.places t.places (length t.asked) (place-elsewhere t t' name n same);
  names = λ m held. ap (λ (u : Told). u.name_of m) same ∙ set_at-other t.name_of n name m (λ e. held (ap handles e ∙ closed));
  calls = λ m held. ap (λ (u : Told). u.call_of m) same ∙ set_at-other t.call_of n (length t.asked) m (λ e. held (ap handles e ∙ closed));
}

-- the place, and what is left behind it
place-left : (t t' : Told) (name : List ℕ) (n : ℕ) → taken_whole t' n ≡ taken_whole (after_open t name (Ok n)) n
    → t'.places (length t.asked) + length (rest_of t' n) ≡ length (t.content name)
place-left t t' name n same =
    let opened = after_open t name (Ok n) in
    let k = length t.asked in
    let at : t'.call_of n ≡ k = call_of-read t t' name n same in
    let own : opened.call_of n ≡ k = set_at-same t.call_of n k in
    let reach : t'.places (t'.call_of n) + length (rest_of t' n) ≡ opened.places (opened.call_of n) + length (rest_of opened n) =
    sym (set_at-same t'.places (t'.call_of n) _) ∙ ap (λ (u : Told). u.places (t'.call_of n)) same
    ∙ set_at-at opened.places (opened.call_of n) _ (t'.call_of n) (at ∙ sym own) in
    let first : opened.places (opened.call_of n) ≡ 0 = set_at-at t.places k 0 (opened.call_of n) own in
    ap (λ p. p + length (rest_of t' n)) (ap t'.places (sym at)) ∙ omega (arith, ap length (rest_of-after_open t name n))

-- the place at the file's end
place-at_end : (t t' : Told) (name : List ℕ) (n : ℕ) → taken_whole t' n ≡ taken_whole (after_open t name (Ok n)) n
    → rest_of t' n ≡ [] → t'.places (length t.asked) ≡ length (t.content name)
place-at_end t t' name n same ended =
    let none : length (rest_of t' n) ≡ 0 = ap length ended in
    omega (arith, place-left t t' name n same)

-- what was taken from the file's front is what stands before the place
taken-place : (content taken rest : List ℕ) (place : ℕ) → content ≡ taken ++ rest → place + length rest ≡ length content → taken ≡ take place content
taken-place content taken rest place left reach =
    let counted : length content ≡ length taken + length rest = simp length-append at (ap length left) in
    let same : length taken ≡ place = omega arith in
    sym (take-append_seam taken rest) ∙ ap (λ xs. take (length taken) xs) (sym left) ∙ ap (λ m. take m content) same

faults_file : (t t' : Told) (name : List ℕ) (n limit : ℕ) (into into' : List ℕ) (result : Result Unit ReadEnd) → taken_whole t' n ≡ taken_whole (after_open t name (Ok n)) n
    → ReadsAll limit (t.content name) (rest_of t' n) into into' result → UpToFault t t' name into into' result
faults_file t t' name n limit into into' (Ok _) same _ = tt
faults_file t t' name n limit into into' (Err ReadFault) same moves =
    moves.put ∙ ap (λ xs. into ++ xs) (taken-place (t.content name) moves.taken (rest_of t' n) _ moves.left (place-left t t' name n same))
faults_file t t' name n limit into into' (Err (TooLarge _)) same _ = tt
faults_file t t' name n limit into into' (Err OutOfMemory) same _ = tt

asks_file : (handles : ℕ → Handle) (t t' : Told) (name : List ℕ) (n limit : ℕ) (into into' : List ℕ) (result : Result Unit ReadEnd) → handles n ≡ Closed
    → taken_whole t' n ≡ taken_whole (after_open t name (Ok n)) n → ReadsAll limit (t.content name) (rest_of t' n) into into' result → AsksFile handles t t' name result
asks_file handles t t' name n limit into into' (Ok _) closed same (_, ended, _) = subst (λ (p : ℕ). AsksFor handles t t' name p) (place-at_end t t' name n same ended) (asks_for handles t t' name n closed same)
asks_file handles t t' name n limit into into' (Err ReadFault) closed same _ = (_, asks_for handles t t' name n closed same)
asks_file handles t t' name n limit into into' (Err (TooLarge _)) closed same _ = (_, asks_for handles t t' name n closed same)
asks_file handles t t' name n limit into into' (Err OutOfMemory) closed same _ = inr (_, asks_for handles t t' name n closed same)

-- the file, from what its opening told
first_rest : (t t₁ : Told) (name : List ℕ) (n : ℕ) → t₁ ≡ after_open t name (Ok n) → rest_of t₁ n ≡ t.content name
first_rest t t₁ name n opened = ap (λ (u : Told). rest_of u n) opened ∙ rest_of-after_open t name n

pub reads_opened : (t t₁ t₂ : Told) (name : List ℕ) (n limit : ℕ) (into into' : List ℕ) (result : Result Unit ReadEnd) → t₁ ≡ after_open t name (Ok n)
    → ReadsAll limit (rest_of t₁ n) (rest_of t₂ n) into into' result → ReadsFile limit (t.content name) into into' result
reads_opened t t₁ t₂ name n limit into into' result opened reads =
    reads_file limit (t.content name) (rest_of t₂ n) into into' result (rw (first_rest t t₁ name n opened) at reads)

pub asks_opened : (handles : ℕ → Handle) (t t₁ t₂ t₃ : Told) (name : List ℕ) (n limit : ℕ) (into into' : List ℕ) (result : Result Unit ReadEnd) → handles n ≡ Closed
    → t₁ ≡ after_open t name (Ok n) → taken_whole t₂ n ≡ taken_whole t₁ n → t₃ ≡ t₂
    → ReadsAll limit (rest_of t₁ n) (rest_of t₂ n) into into' result → AsksFile handles t t₃ name result
asks_opened handles t t₁ t₂ t₃ name n limit into into' result closed opened same last reads =
    rw last (asks_file handles t t₂ name n limit into into' result closed (same ∙ ap (λ (u : Told). taken_whole u n) opened)
    (rw (first_rest t t₁ name n opened) at reads))

pub faults_opened : (t t₁ t₂ t₃ : Told) (name : List ℕ) (n limit : ℕ) (into into' : List ℕ) (result : Result Unit ReadEnd)
    → t₁ ≡ after_open t name (Ok n) → taken_whole t₂ n ≡ taken_whole t₁ n → t₃ ≡ t₂
    → ReadsAll limit (rest_of t₁ n) (rest_of t₂ n) into into' result → UpToFault t t₃ name into into' result
faults_opened t t₁ t₂ t₃ name n limit into into' result opened same last reads =
    rw last (faults_file t t₂ name n limit into into' result (same ∙ ap (λ (u : Told). taken_whole u n) opened) (rw (first_rest t t₁ name n opened) at reads))

-- a file that was not opened is taken up to its first byte
pub faults_unopened : (t t' : Told) (name into : List ℕ) (e : FileFault) → t' ≡ after_open t name (Err e) → UpToFault t t' name into into (Err (end_of e))
faults_unopened t t' name into fault.Failed unopened =
    let first : t'.places (length t.asked) ≡ 0 = ap (λ (u : Told). u.places (length t.asked)) unopened ∙ set_at-same t.places (length t.asked) 0 in
    rw first (grind (arith, common_steps))
faults_unopened t t' name into fault.OutOfMemory unopened = tt

pub ruleset one_file = (reads_opened, asks_opened, faults_opened, faults_unopened)
