use Rattle.std.proofs.Common.{◌≡◌, ◌∙◌, ◌++◌, ◌∷◌, [], ap, sym, get_or, List, Some, None}
use Rattle.std.specs.List.{remove}
use Rattle.dump_capture.proofs.Knowing.{not_known, shown-moved}
use Rattle.dump_capture.specs.Keys.{Keys, number_of}
use Rattle.dump_capture.specs.Point.{plain_of}
use Rattle.dump_capture.specs.declared.key.Key.{Key}
use Rattle.dump_capture.proofs.keys.Keys.show.Goals as goal

pub returns-in-Some : goal.returns-in-Some
returns-in-Some c =
    let point = plain_of c.args.point.now in
    let keys = c.args.self.now in
    let place = c.in-Some.place in
    let key = c.remove-key.result in
    let written : c.self.inside.written.items ≡ keys.written = ap (λ (seen : Keys). seen.written) c.self.view_is in
    let waiting : c.self.inside.waiting.items ≡ keys.waiting = ap (λ (seen : Keys). seen.waiting) c.self.view_is in
    let found : number_of keys.waiting point ≡ Some place =
    ap (λ (seen : List Key). number_of seen point) (sym waiting ∙ sym c.deref.ensures.value) ∙ (sym c.place_of.ensures ∙ c.in-Some.is) in
    shown-moved keys point place key c.push_reserved.new.self.items c.remove-key.new.self.items c.requires.unwritten found
    (c.remove-key.ensures.value ∙ ap (λ (seen : List Key). get_or seen place key) waiting)
    (c.push_reserved.ensures.items ∙ ap (λ (seen : List Key). seen ++ key ∷ []) written)
    (c.remove-key.ensures.items ∙ ap (λ (seen : List Key). remove seen place) waiting)

pub returns-in_default : goal.returns-in_default
returns-in_default c =
    let point = plain_of c.args.point.now in
    let keys = c.args.self.now in
    let waiting : c.self.inside.waiting.items ≡ keys.waiting = ap (λ (seen : Keys). seen.waiting) c.self.view_is in
    let none : number_of keys.waiting point ≡ None =
    ap (λ (seen : List Key). number_of seen point) (sym waiting ∙ sym c.deref.ensures.value) ∙ (sym c.place_of.ensures ∙ c.in_default.is) in
    absurd (not_known keys point c.requires.unwritten none c.requires.known)
