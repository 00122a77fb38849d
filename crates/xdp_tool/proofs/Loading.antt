-- Objects that are loaded, one after another.
use Rattle.std.proofs.Common.{◌≡◌, ℕ, ◌+◌, ◌<◌, ◌≤◌, Bool, true, false, ◌&&◌, cond, nat_lt, List, [], ◌∷◌, ◌++◌, length, take, drop, get_or, Result, Ok, Err, Option, Some, None, IsTrue, refl, sym, ap, ◌∙◌, arith}
use Rattle.std.specs.List.{list_all, slice_get}
use Rattle.std.proofs.lemmas.List.{take-append-drop, take_all, take_more}
use Rattle.std.proofs.lemmas.List.Folds.{list_all-append, list_all_at}
use Rattle.std.proofs.lemmas.Option.{get_or_from_slice_get, slice_get_within}
use Rattle.script_text.specs.declared.script.Script.{Script}
use Rattle.script_text.specs.declared.what.Line.{Line}
use Rattle.xdp_state.specs.declared.interface.Interface.{Interface}
use Rattle.xdp_state.specs.declared.dump.DumpSetting.{DumpSetting}
use Rattle.xdp_state.specs.declared.library.Library.{Library}
use Rattle.xdp_state.specs.declared.library.Loaded.{Loaded}
use Rattle.xdp_state.specs.declared.library.ObjectRow.{ObjectRow}
use Rattle.xio.specs.Told.{Told}
use Rattle.xdp_tool.specs.Named.{Gives}
use Rattle.xdp_tool.specs.Objects.{IsLoadEnd, IsObject}
use Rattle.xdp_tool.specs.Outcome.{AreLoaded, IsLoaded, IsPrepared, is_small, with_objects}
use Rattle.xdp_tool.specs.Touched.{Reads}
use Rattle.xdp_tool.specs.declared.ending.Ending.{Ending}
use Rattle.xdp_tool.specs.declared.ending.Ending.TheVariants.{Done, Usage, BadScript, Fault, OutOfMemory, Limit, TraceDiffers}
use Rattle.xdp_tool.specs.declared.ending.LimitName.TheVariants as limit
use Rattle.xdp_tool.specs.declared.prepared.Prepared.{Prepared}
use Rattle.xdp_tool.proofs.FilesRead.{reads-as, reads-both, reads-front}

-- the files of these names were read to their ends
abbrev pub IsReadUpTo : Told → Told → List (List ℕ) → Type 0
IsReadUpTo old new names = Reads {A = Unit {0}} {E = Ending} old new names (Ok tt)

-- the library has the objects of these names, and nothing else is what their files give
pub record Loads (content : List ℕ → List ℕ) (names : List (List ℕ)) (objects : List ObjectRow) : Type 0 where
  pub small : list_all (is_small content) names ≡ true
  pub loaded : AreLoaded content names objects
  pub only : (others : List ObjectRow) → AreLoaded content names others → others ≡ objects

pub loads-none : (content : List ℕ → List ℕ) → Loads content [] []
loads-none content = record { small = refl; loaded = tt; only = only }
  where
    only : (others : List ObjectRow) → AreLoaded content [] others → others ≡ []
    only [] loaded = refl
    only (o ∷ os) loaded = absurd loaded

loaded-push : (content : List ℕ → List ℕ) (names : List (List ℕ)) (objects : List ObjectRow) (name : List ℕ) (object : ObjectRow) → AreLoaded content names objects → object.name ≡ name → IsLoaded (content name) object.loaded → AreLoaded content (names ++ name ∷ []) (objects ++ object ∷ [])
loaded-push content [] [] name object loaded is gives = (is, gives, tt)
loaded-push content [] (o ∷ os) name object loaded is gives = absurd loaded
loaded-push content (n ∷ names) [] name object loaded is gives = absurd loaded
loaded-push content (n ∷ names) (o ∷ os) name object loaded is gives = (loaded.0, loaded.1, loaded-push content names os name object loaded.2 is gives)

row-same : (one other : ObjectRow) → one.name ≡ other.name → one.loaded ≡ other.loaded → one ≡ other
row-same one other name loaded =
    let first : one ≡ (let row : ObjectRow = record { name = other.name; loaded = one.loaded } in row) = ap (λ n. let row : ObjectRow = record { name = n; loaded = one.loaded } in row) name in
    first ∙ ap (λ l. let row : ObjectRow = record { name = other.name; loaded = l } in row) loaded

-- the objects of some names and of one more
record Parts (content : List ℕ → List ℕ) (names : List (List ℕ)) (name : List ℕ) (objects : List ObjectRow) : Type 0 where
  pub front : List ObjectRow
  pub last : ObjectRow
  pub loaded : AreLoaded content names front
  pub name_is : last.name ≡ name
  pub gives : IsLoaded (content name) last.loaded
  pub joins : objects ≡ front ++ last ∷ []

parts : (content : List ℕ → List ℕ) (names : List (List ℕ)) (name : List ℕ) (objects : List ObjectRow) → AreLoaded content (names ++ name ∷ []) objects → Parts content names name objects
parts content [] name [] loaded = absurd loaded
parts content [] name (o ∷ []) loaded = record { front = []; last = o; loaded = tt; name_is = loaded.0; gives = loaded.1; joins = refl }
parts content [] name (o ∷ p ∷ os) loaded = absurd (loaded.2)
parts content (n ∷ names) name [] loaded = absurd loaded
parts content (n ∷ names) name (o ∷ os) loaded =
    let rest = parts content names name os loaded.2 in
    record {
      front = o ∷ rest.front;
      last = rest.last;
      loaded = (loaded.0, loaded.1, rest.loaded);
      name_is = rest.name_is;
      gives = rest.gives;
      joins = ap (λ xs. o ∷ xs) rest.joins;
    }

-- one object more
loads-push : (content : List ℕ → List ℕ) (names : List (List ℕ)) (objects : List ObjectRow) (name : List ℕ) (object : ObjectRow) → Loads content names objects → is_small content name ≡ true → object.name ≡ name → IsLoaded (content name) object.loaded → ((loaded : Loaded) → IsLoaded (content name) loaded → object.loaded ≡ loaded) → Loads content (names ++ name ∷ []) (objects ++ object ∷ [])
loads-push content names objects name object loads small is gives only = record {
  small = rw (list_all-append (is_small content) names (name ∷ []), loads.small, small) refl;
  loaded = loaded-push content names objects name object loads.loaded is gives;
  only = λ others loaded.
      let p = parts content names name others loaded in
      p.joins ∙ (ap (λ os. os ++ p.last ∷ []) (loads.only p.front p.loaded)
      ∙ ap (λ o. objects ++ o ∷ []) (row-same p.last object (p.name_is ∙ sym is) (sym (only p.last.loaded p.gives))));
}

next-name : (names : List (List ℕ)) (place : ℕ) (name : List ℕ) → slice_get names place ≡ Some name → take (place + 1) names ≡ take place names ++ name ∷ []
next-name names place name here =
    take_more names place name (slice_get_within names place name here) ∙ ap (λ n. take place names ++ n ∷ []) (get_or_from_slice_get names place name name here)

pub loads-more : (tells : Bool) (content : List ℕ → List ℕ) (names : List (List ℕ)) (place : ℕ) (name : List ℕ) (old new : Library) → slice_get names place ≡ Some name → IsTrue tells → Loads content (take place names) old.objects → IsObject tells content name old new → Loads content (take (place + 1) names) new.objects
loads-more tells content names place name old new here told loads is =
    let next = next-name names place name here in
    let bytes = is.content_is told in
    rw (next, ap (λ (l : Library). l.objects) is.is.added)
    (loads-push content (take place names) old.objects name is.is.object loads (is.small told) is.is.name_is (rw bytes is.is.loaded) (λ loaded gives. is.is.only loaded (rw bytes at gives)))

-- all of them
pub loads-all : (content : List ℕ → List ℕ) (names : List (List ℕ)) (place : ℕ) (objects : List ObjectRow) → length names ≤ place → Loads content (take place names) objects → Loads content names objects
loads-all content names place objects past loads = rw (take_all place names past) at loads

with-all : (content : List ℕ → List ℕ) (script : Script) (objects : List ObjectRow) → nat_lt 16 (length script.objects) ≡ false → Loads content script.objects objects → with_objects content script ≡ Ok script
unfolding with_objects
with-all content script objects few loads = rw (few, loads.small) refl

prepared-same : (one other : Prepared) → one.library.interfaces ≡ other.library.interfaces → one.library.objects ≡ other.library.objects → one.library.dumps ≡ other.library.dumps → one.lines ≡ other.lines → one ≡ other
prepared-same one other interfaces objects dumps lines =
    let library : one.library ≡ other.library =
    ap (λ (is : List Interface). let l : Library = record { interfaces = is; objects = one.library.objects; dumps = one.library.dumps } in l) interfaces
    ∙ ap (λ (os : List ObjectRow). let l : Library = record { interfaces = other.library.interfaces; objects = os; dumps = one.library.dumps } in l) objects
    ∙ ap (λ (ds : List DumpSetting). let l : Library = record { interfaces = other.library.interfaces; objects = other.library.objects; dumps = ds } in l) dumps in
    ap (λ (l : Library). let p : Prepared = record { library = l; lines = one.lines } in p) library
    ∙ ap (λ (ls : List Line). let p : Prepared = record { library = other.library; lines = ls } in p) lines

pub all-loaded : (content : List ℕ → List ℕ) (script : Script) (library : Library) → nat_lt 16 (length script.objects) ≡ false → library.interfaces ≡ script.interfaces → library.dumps ≡ script.dumps → Loads content script.objects library.objects → IsPrepared content (with_objects content script) (Ok (record { library = library; lines = script.lines }))
all-loaded content script library few interfaces dumps loads =
    rw (with-all content script library.objects few loads) (record { interfaces = interfaces; objects = loads.loaded; dumps = dumps; lines = refl })

pub all-only : (content : List ℕ → List ℕ) (script : Script) (library : Library) (prepared : Result Prepared Ending) → nat_lt 16 (length script.objects) ≡ false → library.interfaces ≡ script.interfaces → library.dumps ≡ script.dumps → Loads content script.objects library.objects → IsPrepared content (with_objects content script) prepared → Gives (Ok (record { library = library; lines = script.lines })) prepared
all-only content script library prepared few interfaces dumps loads is = by_result prepared (rw (with-all content script library.objects few loads) at is)
  where
    by_result : (r : Result Prepared Ending) → IsPrepared content (Ok script) r → r ≡ Ok (record { library = library; lines = script.lines })
    by_result (Ok p) holds = ap Ok (prepared-same p (record { library = library; lines = script.lines }) (holds.interfaces ∙ sym interfaces) (loads.only p.library.objects holds.objects) (holds.dumps ∙ sym dumps) holds.lines)
    by_result (Err e) holds = absurd holds

-- too many objects
pub many-objects : (content : List ℕ → List ℕ) (script : Script) (prepared : Result Prepared Ending) → nat_lt 16 (length script.objects) ≡ true → IsPrepared content (with_objects content script) prepared → prepared ≡ Err (Limit limit.Objects)
unfolding with_objects
many-objects content script prepared many is = rw many at is

-- one that is too large
large-one : (content : List ℕ → List ℕ) (script : Script) (place : ℕ) (name : List ℕ) → nat_lt 16 (length script.objects) ≡ false → slice_get script.objects place ≡ Some name → is_small content name ≡ false → with_objects content script ≡ Err (Limit limit.Object)
unfolding with_objects
large-one content script place name few here large =
    let not_all : list_all (is_small content) script.objects ≡ false =
    list_all_at (is_small content) script.objects place name (slice_get_within script.objects place name here) (ap (is_small content) (get_or_from_slice_get script.objects place name name here) ∙ large) in
    rw (few, not_all) refl

pub not-loaded : (content : List ℕ → List ℕ) (script : Script) (place : ℕ) (name : List ℕ) (ending : Ending) (prepared : Result Prepared Ending) → nat_lt 16 (length script.objects) ≡ false → slice_get script.objects place ≡ Some name → IsLoadEnd ending → (ending ≡ Limit limit.Object → is_small content name ≡ false) → IsPrepared content (with_objects content script) prepared → Gives (Err ending) prepared
not-loaded content script place name Fault prepared few here known large is = tt
not-loaded content script place name OutOfMemory prepared few here known large is = tt
not-loaded content script place name (Limit limit.Object) prepared few here known large is = rw (large-one content script place name few here (large refl)) at is
not-loaded content script place name (Limit limit.Objects) prepared few here known large is = absurd known
not-loaded content script place name (Limit limit.Script) prepared few here known large is = absurd known
not-loaded content script place name (Limit limit.Lines) prepared few here known large is = absurd known
not-loaded content script place name (Limit limit.Trace) prepared few here known large is = absurd known
not-loaded content script place name (Done refused) prepared few here known large is = absurd known
not-loaded content script place name Usage prepared few here known large is = absurd known
not-loaded content script place name (BadScript line rule) prepared few here known large is = absurd known
not-loaded content script place name (TraceDiffers line) prepared few here known large is = absurd known

-- the same of the script itself
pub not-loadable : (content : List ℕ → List ℕ) (script : Script) (place : ℕ) (name : List ℕ) (ending : Ending) → nat_lt 16 (length script.objects) ≡ false → slice_get script.objects place ≡ Some name → IsLoadEnd ending → (ending ≡ Limit limit.Object → is_small content name ≡ false) → Gives {A = Script} (Err ending) (with_objects content script)
not-loadable content script place name Fault few here known large = tt
not-loadable content script place name OutOfMemory few here known large = tt
not-loadable content script place name (Limit limit.Object) few here known large = large-one content script place name few here (large refl)
not-loadable content script place name (Limit limit.Objects) few here known large = absurd known
not-loadable content script place name (Limit limit.Script) few here known large = absurd known
not-loadable content script place name (Limit limit.Lines) few here known large = absurd known
not-loadable content script place name (Limit limit.Trace) few here known large = absurd known
not-loadable content script place name (Done refused) few here known large = absurd known
not-loadable content script place name Usage few here known large = absurd known
not-loadable content script place name (BadScript line rule) few here known large = absurd known
not-loadable content script place name (TraceDiffers line) few here known large = absurd known

-- one file more, to its end
pub reads-more : (t t₁ t₂ : Told) (names : List (List ℕ)) (place : ℕ) (name : List ℕ) → slice_get names place ≡ Some name → IsReadUpTo t t₁ (take place names) → Reads {A = Unit {0}} {E = Ending} t₁ t₂ (name ∷ []) (Ok tt) → IsReadUpTo t t₂ (take (place + 1) names)
reads-more t t₁ t₂ names place name here first second =
    rw (next-name names place name here) (reads-both t t₁ t₂ (take place names) (name ∷ []) tt (Ok tt) first second)

-- one that ended the run
pub reads-stopped : (t t₁ t₂ : Told) (names : List (List ℕ)) (place : ℕ) (name : List ℕ) (e : Ending) → slice_get names place ≡ Some name → IsReadUpTo t t₁ (take place names) → Reads {A = Unit {0}} t₁ t₂ (name ∷ []) (Err e) → Reads {A = Prepared} t t₂ names (Err e)
reads-stopped t t₁ t₂ names place name e here first second =
    let front : Reads {A = Unit {0}} t t₂ (take (place + 1) names) (Err e) =
    rw (next-name names place name here) (reads-both t t₁ t₂ (take place names) (name ∷ []) tt (Err e) first second) in
    rw (take-append-drop (place + 1) names) at (reads-front {A = Prepared} t t₂ (take (place + 1) names) (drop (place + 1) names) e front)

-- all of them
pub reads-all : (t t' : Told) (names : List (List ℕ)) (place : ℕ) (prepared : Prepared) → length names ≤ place → IsReadUpTo t t' (take place names) → Reads {E = Ending} t t' names (Ok prepared)
reads-all t t' names place prepared past reads = reads-as t t' names tt prepared (rw (take_all place names past) at reads)
