-- One file that is made, written as a sink and closed: what that changes of all files.
use Rattle.std.proofs.Common.{◌≡◌, ◌⊎◌, ℕ, ◌+◌, ◌<◌, ◌==◌, zero, suc, Bool, true, false, List, [], ◌∷◌, ◌++◌, length, length-append, take, Ok, Err, Some, None, append-nil, append_assoc, refl, sym, ap, ◌∙◌, arith, not, unwrap_or, IsTrue, inl, inr, Option, IfSome, OnOk, Result}
use Rattle.std.proofs.lemmas.Bool.{true≢false, false≢true}
use Rattle.std.specs.Cmp.Lexicographic.{pointwise}
use Rattle.std.specs.Prelude.{nat_eq}
use Rattle.std.proofs.lemmas.Slice.Eq.{bytes_eq-Decides}
use Rattle.xio.proofs.SetLemmas.{set_at-same}
use Rattle.xio.specs.Lent.{if_told}
use Rattle.xio.specs.Prefixes.{AppendsPrefix}
use Rattle.xio.specs.Told.{Told, after_make, set_named, told_beside}
use Rattle.xio.specs.declared.files.FileFault.TheVariants.{Failed}
use Rattle.xdp_tool.specs.Ending.{status_of}
use Rattle.command_line.specs.Names.{Names}
use Rattle.xdp_tool.specs.Headline.{is_end, made_name, trace_name}
use Rattle.xdp_tool.specs.Outcome.{IsPerformance, Reading}
use Rattle.xdp_tool.specs.declared.ending.Ending.{Ending}
use Rattle.xdp_tool.specs.declared.performance.Performance.{Performance}
use Rattle.xdp_tool.specs.Order.{AppendsWhole}
use Rattle.xdp_tool.specs.PhaseEnd.{OnEnded}
use Rattle.xdp_tool.specs.Run.{ending_of}
use Rattle.xdp_tool.specs.Sinks.{FillsFile, HasBegun, IsTracedUpTo, LeavesTrace}
use Rattle.xdp_tool.specs.Touched.{IsUnmade, Makes, Reads, Touches, calls_for, is_other}
use Rattle.xdp_tool.specs.declared.perform.Stop.{Stop}
use Rattle.xdp_tool.specs.declared.perform.Stop.TheVariants.{Differs, Fault, OutOfMemory}

set_named-other : {V : Type 0} (f : List ℕ → V) (name : List ℕ) (v : V) (other : List ℕ) → is_other (Some name) other ≡ true → set_named f name v other ≡ f other
set_named-other f name v other apart = by_case (pointwise nat_eq other name) refl
  where
    by_case : (b : Bool) → pointwise nat_eq other name ≡ b → set_named f name v other ≡ f other
    by_case true here = absurd (true≢false (sym apart ∙ ap not here))
    by_case false differs = rw differs refl

set_named-here : {V : Type 0} (f : List ℕ → V) (name : List ℕ) (v : V) → set_named f name v name ≡ v
set_named-here f name v = rw ((bytes_eq-Decides name name).1 refl) refl

made-after : (t t₁ t₂ t₃ : Told) (name : List ℕ) (n : ℕ) → t₁ ≡ after_make t name (Ok n) → told_beside t₂ n ≡ told_beside t₁ n → t₃ ≡ t₂ → t₃.made ≡ t.made ++ name ∷ []
made-after t t₁ t₂ t₃ name n made same last =
    ap (λ (u : Told). u.made) last ∙ (ap (λ (u : Told). u.made) same ∙ ap (λ (u : Told). u.made) made)

-- what is told of another name
beside-other : (t t' : Told) (n : ℕ) (name other : List ℕ) → t.name_of n ≡ name → t'.name_of n ≡ name → told_beside t' n ≡ told_beside t n → is_other (Some name) other ≡ true → (t'.content other ≡ t.content other) × (t'.flushed other ≡ t.flushed other)
beside-other t t' n name other is is' same apart =
    let here : is_other (Some (t.name_of n)) other ≡ true = rw is apart in
    let here' : is_other (Some (t'.name_of n)) other ≡ true = rw is' apart in (
      sym (set_named-other t'.content (t'.name_of n) [] other here') ∙ (ap (λ (u : Told). u.content other) same ∙ set_named-other t.content (t.name_of n) [] other here),
      sym (set_named-other t'.flushed (t'.name_of n) 0 other here') ∙ (ap (λ (u : Told). u.flushed other) same ∙ set_named-other t.flushed (t.name_of n) 0 other here),
    )

-- the trace's file was made, written as a sink and closed
pub makes-one : (t t₁ t₂ t₃ : Told) (name : List ℕ) (n n₂ : ℕ) → t₁ ≡ after_make t name (Ok n) → n₂ ≡ n → told_beside t₂ n₂ ≡ told_beside t₁ n → t₃ ≡ t₂ → Makes t t₃ (Some name)
makes-one t t₁ t₂ t₃ name n n₂ made file same₂ last =
    let same : told_beside t₂ n ≡ told_beside t₁ n = rw file at same₂ in
    let own : t₁.name_of n ≡ name = ap (λ (u : Told). u.name_of n) made ∙ set_at-same t.name_of n name in
    let own' : t₂.name_of n ≡ name = ap (λ (u : Told). u.name_of n) same ∙ own in
    record {
      asked = ap (λ (u : Told). u.asked) last ∙ (ap (λ (u : Told). u.asked) same ∙ ap (λ (u : Told). u.asked) made);
      places = ap (λ (u : Told). u.places) last ∙ (ap (λ (u : Told). u.places) same ∙ ap (λ (u : Told). u.places) made);
      made = (1, made-after t t₁ t₂ t₃ name n made same last);
      content = λ other apart. ap (λ (u : Told). u.content other) last ∙ ((beside-other t₁ t₂ n name other own own' same apart).0
          ∙ (ap (λ (u : Told). u.content other) made ∙ set_named-other t.content name [] other apart));
      flushed = λ other apart. ap (λ (u : Told). u.flushed other) last ∙ ((beside-other t₁ t₂ n name other own own' same apart).1
          ∙ (ap (λ (u : Told). u.flushed other) made ∙ set_named-other t.flushed name 0 other apart));
    }

-- it couldn't be made
pub makes-failed : (t t' : Told) (name : List ℕ) → t' ≡ after_make t name (Err Failed) → Makes t t' (Some name)
makes-failed t t' name failed = record {
  asked = ap (λ (u : Told). u.asked) failed;
  places = ap (λ (u : Told). u.places) failed;
  made = (1, ap (λ (u : Told). u.made) failed);
  content = λ other apart. ap (λ (u : Told). u.content other) failed;
  flushed = λ other apart. ap (λ (u : Told). u.flushed other) failed;
}

-- no file was asked for
pub makes-none : (t t' : Told) (made : Option (List ℕ)) → t' ≡ t → Makes t t' made
makes-none t t' made same = record {
  asked = ap (λ (u : Told). u.asked) same;
  places = ap (λ (u : Told). u.places) same;
  made = (0, ap (λ (u : Told). u.made) same ∙ sym (append-nil t.made));
  content = λ other apart. ap (λ (u : Told). u.content other) same;
  flushed = λ other apart. ap (λ (u : Told). u.flushed other) same;
}

-- what a setting tells
pub told-of : (tells : Bool) (t t' : Told) → IsTrue tells → if_told tells t ≡ if_told tells t' → t ≡ t'
told-of true t t' yes' same = ap (λ o. unwrap_or o t) same
told-of false t t' yes' same = absurd (false≢true yes')

-- a trace, where the file was as before until it was made
pub traced-since : (t t₁ t₂ : Told) (text name : List ℕ) → t₁.content name ≡ t.content name → IsTracedUpTo t₁ t₂ text name → IsTracedUpTo t t₂ text name
traced-since t t₁ t₂ text name same (inl untouched) = inl (untouched ∙ same)
traced-since t t₁ t₂ text name same (inr front) = inr front

-- the trace's file as a sink
pub traced_made : (t t₁ t₂ t₃ : Told) (text name : List ℕ) (n n₂ : ℕ) → t₁ ≡ after_make t name (Ok n) → n₂ ≡ n → told_beside t₂ n₂ ≡ told_beside t₁ n → t₃ ≡ t₂ → AppendsPrefix (t₁.content (t₁.name_of n)) (t₂.content (t₂.name_of n₂)) text → IsTracedUpTo t t₃ text name
traced_made t t₁ t₂ t₃ text name n n₂ made file same₂ last front =
    let same : told_beside t₂ n ≡ told_beside t₁ n = rw file at same₂ in
    let own : t₁.name_of n ≡ name = ap (λ (u : Told). u.name_of n) made ∙ set_at-same t.name_of n name in
    let own' : t₂.name_of n ≡ name = ap (λ (u : Told). u.name_of n) same ∙ own in
    let empty : t₁.content name ≡ [] = ap (λ (u : Told). u.content name) made ∙ set_named-here t.content name [] in
    inr (rw (ap (λ (u : Told). u.content name) last) (rw (own, empty, file, own') at front))

-- and its first line
pub begun_made : (t t₁ t₂ t₃ : Told) (first name : List ℕ) (n n₂ : ℕ) → t₁ ≡ after_make t name (Ok n) → n₂ ≡ n → told_beside t₂ n₂ ≡ told_beside t₁ n → t₃ ≡ t₂ → AppendsWhole (t₁.content (t₁.name_of n)) (t₂.content (t₂.name_of n₂)) first → (t₃.made ≡ t.made ++ name ∷ []) × AppendsWhole [] (t₃.content name) first
begun_made t t₁ t₂ t₃ first name n n₂ made file same₂ last whole =
    let same : told_beside t₂ n ≡ told_beside t₁ n = rw file at same₂ in
    let own : t₁.name_of n ≡ name = ap (λ (u : Told). u.name_of n) made ∙ set_at-same t.name_of n name in
    let own' : t₂.name_of n ≡ name = ap (λ (u : Told). u.name_of n) same ∙ own in
    let empty : t₁.content name ≡ [] = ap (λ (u : Told). u.content name) made ∙ set_named-here t.content name [] in
    (made-after t t₁ t₂ t₃ name n made same last, rw (ap (λ (u : Told). u.content name) last) (rw (own, empty, file, own') at whole))

made-content : (t t₁ t₂ t₃ : Told) (text name : List ℕ) (n n₂ : ℕ) → t₁ ≡ after_make t name (Ok n) → n₂ ≡ n → told_beside t₂ n₂ ≡ told_beside t₁ n → t₃ ≡ t₂ → t₂.content (t₂.name_of n₂) ≡ t₁.content (t₁.name_of n) ++ text → t₃.content name ≡ text
made-content t t₁ t₂ t₃ text name n n₂ made file same₂ last whole =
    let same : told_beside t₂ n ≡ told_beside t₁ n = rw file at same₂ in
    let own : t₁.name_of n ≡ name = ap (λ (u : Told). u.name_of n) made ∙ set_at-same t.name_of n name in
    let own' : t₂.name_of n ≡ name = ap (λ (u : Told). u.name_of n) same ∙ own in
    let empty : t₁.content name ≡ [] = ap (λ (u : Told). u.content name) made ∙ set_named-here t.content name [] in
    ap (λ (u : Told). u.content name) last ∙ (rw (own, empty, file, own') at whole)

made-flushed : (t t₁ t₂ t₃ : Told) (text name : List ℕ) (n n₂ : ℕ) → t₁ ≡ after_make t name (Ok n) → n₂ ≡ n → told_beside t₂ n₂ ≡ told_beside t₁ n → t₃ ≡ t₂ → t₃.content name ≡ text → t₂.flushed (t₂.name_of n₂) ≡ length (t₂.content (t₂.name_of n₂)) → t₃.flushed name ≡ length text
made-flushed t t₁ t₂ t₃ text name n n₂ made file same₂ last is all =
    let same : told_beside t₂ n ≡ told_beside t₁ n = rw file at same₂ in
    let own' : t₂.name_of n ≡ name = ap (λ (u : Told). u.name_of n) same ∙ (ap (λ (u : Told). u.name_of n) made ∙ set_at-same t.name_of n name) in
    let flushed : t₂.flushed name ≡ length (t₂.content name) = rw (file, own') at all in
    ap (λ (u : Told). u.flushed name) last ∙ (flushed ∙ (ap (λ (u : Told). length (u.content name)) (sym last) ∙ ap length is))

-- all of it, where the run came to its end
pub fills-made : {A : Type 0} (t t₁ t₂ t₃ : Told) (text name : List ℕ) (n n₂ : ℕ) (result : Result A Stop) → t₁ ≡ after_make t name (Ok n) → n₂ ≡ n → told_beside t₂ n₂ ≡ told_beside t₁ n → t₃ ≡ t₂ → AppendsPrefix (t₁.content (t₁.name_of n)) (t₂.content (t₂.name_of n₂)) text → OnEnded result (t₂.content (t₂.name_of n₂) ≡ t₁.content (t₁.name_of n) ++ text) → OnOk result (t₂.flushed (t₂.name_of n₂) ≡ length (t₂.content (t₂.name_of n₂))) → FillsFile t t₃ text result name
fills-made t t₁ t₂ t₃ text name n n₂ (Err Fault) made file same₂ last front whole all =
    record { front = traced_made t t₁ t₂ t₃ text name n n₂ made file same₂ last front; content = tt; whole = tt }
fills-made t t₁ t₂ t₃ text name n n₂ (Err OutOfMemory) made file same₂ last front whole all =
    record { front = traced_made t t₁ t₂ t₃ text name n n₂ made file same₂ last front; content = tt; whole = tt }
fills-made t t₁ t₂ t₃ text name n n₂ (Err (Differs line)) made file same₂ last front whole all = record {
  front = traced_made t t₁ t₂ t₃ text name n n₂ made file same₂ last front;
  content = made-content t t₁ t₂ t₃ text name n n₂ made file same₂ last whole;
  whole = tt;
}
fills-made t t₁ t₂ t₃ text name n n₂ (Ok x) made file same₂ last front whole all =
    let is = made-content t t₁ t₂ t₃ text name n n₂ made file same₂ last whole in
    record {
      front = traced_made t t₁ t₂ t₃ text name n n₂ made file same₂ last front;
      content = is;
      whole = record { content = is; flushed = made-flushed t t₁ t₂ t₃ text name n n₂ made file same₂ last is all };
    }

pub unmade-still : (t : Told) → IsUnmade t t
unmade-still t = record { made = refl; content = refl; flushed = refl }

-- a read changes no file
pub unmade-content : (t t' : Told) (name : List ℕ) → IsUnmade t t' → t'.content name ≡ t.content name
unmade-content t t' name unmade = ap (λ f. f name) unmade.content

pub traced-all : (t t₁ t₂ : Told) (text : List ℕ) (name : Option (List ℕ)) → IsUnmade t t₁ → IfSome name (IsTracedUpTo t₁ t₂ text) → IfSome name (IsTracedUpTo t t₂ text)
traced-all t t₁ t₂ text (Some name) before traced = traced-since t t₁ t₂ text name (unmade-content t t₁ name before) traced
traced-all t t₁ t₂ text None before traced = tt

-- the file that a trace is wanted in, once the script was read and performed
pub leaves-trace : (t t₁ t₂ : Told) (text : List ℕ) (performed : Result Bool Stop) (name : Option (List ℕ)) → IsUnmade t t₁ → IfSome name (FillsFile t₁ t₂ text performed) → IfSome name (LeavesTrace t t₂ text (status_of (ending_of performed)))
leaves-trace t t₁ t₂ text performed None before fills = tt
leaves-trace t t₁ t₂ text (Ok refused) (Some name) before fills = record {
  front = traced-since t t₁ t₂ text name (unmade-content t t₁ name before) fills.front;
  whole = λ ended. fills.whole;
}
leaves-trace t t₁ t₂ text (Err (Differs line)) (Some name) before fills = record {
  front = traced-since t t₁ t₂ text name (unmade-content t t₁ name before) fills.front;
  whole = λ ended. absurd (false≢true ended);
}
leaves-trace t t₁ t₂ text (Err Fault) (Some name) before fills = record {
  front = traced-since t t₁ t₂ text name (unmade-content t t₁ name before) fills.front;
  whole = λ ended. absurd (false≢true ended);
}
leaves-trace t t₁ t₂ text (Err OutOfMemory) (Some name) before fills = record {
  front = traced-since t t₁ t₂ text name (unmade-content t t₁ name before) fills.front;
  whole = λ ended. absurd (false≢true ended);
}

-- nothing was traced
pub leaves-none : (t t₁ : Told) (text : List ℕ) (status : ℕ) (name : Option (List ℕ)) → is_end status ≡ false → IsUnmade t t₁ → IfSome name (LeavesTrace t t₁ text status)
leaves-none t t₁ text status None early unmade = tt
leaves-none t t₁ text status (Some name) early unmade = record {
  front = inl (unmade-content t t₁ name unmade);
  whole = λ ended. absurd (false≢true (sym early ∙ ended));
}

pub traced-none : (t t₁ : Told) (text : List ℕ) (name : Option (List ℕ)) → IsUnmade t t₁ → IfSome name (IsTracedUpTo t t₁ text)
traced-none t t₁ text None unmade = tt
traced-none t t₁ text (Some name) unmade = inl (unmade-content t t₁ name unmade)

-- the trace has begun since the script was read
pub begun-all : (N : Type 0) (t t₁ t₂ : Told) (name : Option (List ℕ)) → IsUnmade t t₁ → IfSome name (λ n. HasBegun t₁ t₂ n ⊎ N) → IfSome name (λ n. HasBegun t t₂ n ⊎ N)
begun-all N t t₁ t₂ None before begun = tt
begun-all N t t₁ t₂ (Some name) before (inl has) = inl (record { made = has.made ∙ ap (λ made. made ++ name ∷ []) before.made; first = has.first })
begun-all N t t₁ t₂ (Some name) before (inr none) = inr none

pub begun-none : (N : Type 0) (t t₁ : Told) (name : Option (List ℕ)) → N → IfSome name (λ n. HasBegun t t₁ n ⊎ N)
begun-none N t t₁ None none = tt
begun-none N t t₁ (Some name) none = inr none

-- a read, and then a trace
pub touches-both : (t t₁ t₂ : Told) {A E : Type 0} (names : List (List ℕ)) (result : Result A E) (made : Option (List ℕ)) → Reads t t₁ names result → Makes t₁ t₂ made → Touches t t₂ names made
touches-both t t₁ t₂ names result made first second = record {
  asked = (first.asked.0, second.asked ∙ first.asked.1);
  made = (second.made.0, second.made.1 ∙ ap (λ calls. calls ++ take second.made.0 (calls_for made)) first.unmade.made);
  content = λ other apart. second.content other apart ∙ ap (λ f. f other) first.unmade.content;
  flushed = λ other apart. second.flushed other apart ∙ ap (λ f. f other) first.unmade.flushed;
}

-- a read alone
pub touches-read : (t t₁ : Told) {A E : Type 0} (names : List (List ℕ)) (result : Result A E) (made : Option (List ℕ)) → Reads t t₁ names result → Touches t t₁ names made
touches-read t t₁ names result made reads = record {
  asked = reads.asked;
  made = (0, reads.unmade.made ∙ sym (append-nil t.made));
  content = λ other apart. ap (λ f. f other) reads.unmade.content;
  flushed = λ other apart. ap (λ f. f other) reads.unmade.flushed;
}

-- neither
pub touches-nothing : (t : Told) (names : List (List ℕ)) (made : Option (List ℕ)) → Touches t t names made
touches-nothing t names made = record {
  asked = (0, sym (append-nil t.asked));
  made = (0, sym (append-nil t.made));
  content = λ other apart. refl;
  flushed = λ other apart. refl;
}

-- a script was prepared, so the trace's file may be made
pub touches-wanted : (t t₂ : Told) (asked : List (List ℕ)) (content : List ℕ → List ℕ) (names : Result Names Ending) (read : Result Reading Ending) (performed : Performance) → IsPerformance content read (Ok performed) → Touches t t₂ asked (trace_name names) → Touches t t₂ asked (made_name names read)
touches-wanted t t₂ asked content names (Ok reading) performed is touches = touches
touches-wanted t t₂ asked content names (Err e) performed is touches = absurd cc
