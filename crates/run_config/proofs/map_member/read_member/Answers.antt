use Rattle.std.proofs.Common.{inl, inr, refl, sym}
use Rattle.run_config.proofs.Members.{no_number_read, no_pointer_read, no_size_read, number_read, other_name, size_read}
use Rattle.run_config.proofs.map_member.read_member.Goals as goal

pub returns-in_default : goal.returns-in_default
returns-in_default c =
    other_name c.args.types.now c.args.member.now _ refl c.in_default.ensures.other

pub returns-in-Some-counted : goal.returns-in-Some-counted
returns-in-Some-counted c =
    number_read c.args.types.now c.args.member.now _ refl c.in-Some.field c.in-Some.ensures.name c.in-Some-counted.value (sym c.if-not-gives_size.ensures.number) ((c.in-Some-counted.ensures c.in-Some-counted.value).0 refl)

pub returns-in-None : goal.returns-in-None
returns-in-None c =
    no_number_read c.args.types.now c.args.member.now _ refl c.in-Some.field c.in-Some.ensures.name (sym c.if-not-gives_size.ensures.number) (λ value counts. (let none = (c.in-None.ensures value).1 counts in cc))

pub returns-in_default-target_of : goal.returns-in_default-target_of
returns-in_default-target_of c =
    no_pointer_read c.args.types.now c.args.member.now _ refl c.in-Some.field c.in-Some.ensures.name (sym c.if-not-gives_size.ensures.size) (λ target points. (let none = (c.in_default-target_of.ensures.target target).1 points in cc))

pub returns-in-Known : goal.returns-in-Known
returns-in-Known c =
    size_read c.args.types.now c.args.member.now _ refl c.in-Some.field c.in-Some.ensures.name c.in-Some-target_of.target c.in-Known.size (sym c.if-not-gives_size.ensures.size) ((c.in-Some-target_of.ensures.target c.in-Some-target_of.target).0 refl) ((c.in-Known.ensures.known c.in-Known.size).0 refl)

pub returns-in-Endless : goal.returns-in-Endless
returns-in-Endless c =
    no_size_read c.args.types.now c.args.member.now _ refl c.in-Some.field c.in-Some.ensures.name c.in-Some-target_of.target (sym c.if-not-gives_size.ensures.size) ((c.in-Some-target_of.ensures.target c.in-Some-target_of.target).0 refl) (λ size has. (let known = (c.size_of.ensures.known size).1 has in elim c.in-Endless.is [ inl e ↦ cc (e, known) | inr e ↦ cc (e, known) ]))
