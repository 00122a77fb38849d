-- What a read that fills a buffer from a piece leaves of the rest.
use Rattle.std.proofs.Common.{◌≡◌, ℕ, ◌+◌, ◌<◌, ◌≤◌, List, [], ◌++◌, length, take, drop, min, sym, ◌∙◌, ap, arith}
use Rattle.std.proofs.lemmas.Grind.{common_steps}
use Rattle.std.proofs.lemmas.List.{take-append-drop, drop-drop, take-take}
use Rattle.xio.specs.Handles.{set_at}
use Rattle.xio.specs.Numbers.{name_at, call_at, place_at}
use Rattle.xio.specs.Pieces.{IsFrontOf}
use Rattle.xio.specs.Shelf.{content_of}
use Rattle.xio.specs.declared.memory.ask.Ask.{Ask}
use Rattle.xio.specs.declared.memory.entry.Entry.{Entry}
use Rattle.xio.specs.declared.memory.stored_file.StoredFile.{StoredFile}
use Rattle.xio.proofs.SetLemmas.{set_at-same}

-- the first n bytes of the piece, and what is left behind them
rest-read : (content piece buffer : List ℕ) (place n : ℕ) → IsFrontOf piece (drop place content) → n ≤ length piece → take n buffer ≡ take n piece
    → drop place content ≡ take n buffer ++ drop (place + n) content
rest-read content piece buffer place n front within filled =
    let rest = drop place content in
    let same : take n piece ≡ take n rest = ap (λ xs. take n xs) front.front ∙ take-take n (length piece) rest within in
    sym (take-append-drop n rest) ∙ ap (λ xs. xs ++ drop n rest) (sym (filled ∙ same)) ∙ ap (λ xs. take n buffer ++ xs) (drop-drop n place content)

-- The same where the piece or the buffer is full. Nothing was read only at the end, or into no room.
pub reads_piece : (content piece buffer : List ℕ) (place n room : ℕ) → IsFrontOf piece (drop place content)
    → n ≡ min room (length piece) → take n buffer ≡ take n piece → length buffer ≡ room
    → (drop place content ≡ take n buffer ++ drop (place + n) content) × (n ≡ 0 → 0 < length buffer → drop place content ≡ [])
reads_piece content piece buffer place n room front count filled whole = (
  rest-read content piece buffer place n front (omega arith) filled,
  λ none some. let part : 0 < room = omega arith in front.some (grind (arith, common_steps)),
)

-- the same of a file that was taken n bytes further
pub reads_further : (files : List StoredFile) (entries entries' : List Entry) (asks asks' : List Ask) (file n room : ℕ) (piece buffer : List ℕ)
    → IsFrontOf piece (drop (place_at asks (call_at entries file)) (content_of files (name_at entries file)))
    → n ≡ min room (length piece) → take n buffer ≡ take n piece → length buffer ≡ room
    → place_at asks' ≡ set_at (place_at asks) (call_at entries file) (place_at asks (call_at entries file) + n) → entries' ≡ entries
    → (drop (place_at asks (call_at entries file)) (content_of files (name_at entries file))
    ≡ take n buffer ++ drop (place_at asks' (call_at entries' file)) (content_of files (name_at entries' file)))
    × (n ≡ 0 → 0 < length buffer → drop (place_at asks (call_at entries file)) (content_of files (name_at entries file)) ≡ [])
reads_further files entries entries' asks asks' file n room piece buffer front count filled whole places same =
    let place = place_at asks (call_at entries file) in
    let content = content_of files (name_at entries file) in
    let place_after : place_at asks' (call_at entries file) ≡ place + n = ap (λ at. at (call_at entries file)) places ∙ set_at-same (place_at asks) (call_at entries file) (place + n) in
    let rest_after : drop (place_at asks' (call_at entries' file)) (content_of files (name_at entries' file)) ≡ drop (place + n) content =
    ap (λ es. drop (place_at asks' (call_at es file)) (content_of files (name_at es file))) same ∙ ap (λ k. drop k content) place_after in
    let read = reads_piece content piece buffer place n room front count filled whole in
    (read.0 ∙ ap (λ xs. take n buffer ++ xs) (sym rest_after), read.1)
