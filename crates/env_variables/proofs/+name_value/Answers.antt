-- Each way through a reader of names or of values is one of the laws of the turns.
use Rattle.std.proofs.Common.{rules, true, ◌≡◌, ◌<◌, get_or, drop, sym, ◌∙◌, arith}
use borrow.Author.Tests.{not-true, not-false}
use Rattle.env.specs.Variable.{is_kind, variable_limit}
use Rattle.refusal.specs.declared.Refusal.TheVariants.{NoVariable, BadEscape, TooManyVariables}
use Rattle.env_variables.specs.Internal.Found.{buffers}
use Rattle.env_text.specs.Text.{text_of}
use Rattle.octets.proofs.Front.{empty, to_the_end}
use Rattle.env_variables.proofs.Turning.{from-nil, from-value, from-other, from-kind, names-full, names-broken, names-empty, name-none, name-fault, name-turn}
use Rattle.env_variables.proofs.Turning.{value-turn, value-fault}
use Rattle.env_variables.proofs.+name_value.Goals as goal

pub name-returns-then-rest-eq0 : goal.name-returns-then-rest-eq0
name-returns-then-rest-eq0 t c =
    let a = c.args in
    name-none _ a.at a.k (buffers a.bytes.now a.numbers.now) (from-nil a.fault a.k a.rest.now c.if-rest-eq0.true) (omega arith) (omega arith)

pub name-returns-then-kind-eq-VALUE : goal.name-returns-then-kind-eq-VALUE
name-returns-then-kind-eq-VALUE t c =
    let a = c.args in
    name-fault _ a.fault a.at a.k _ _ (from-value a.fault a.k a.rest.now (omega arith) c.if-kind-eq-VALUE.true)

pub name-returns-then-not-opens : goal.name-returns-then-not-opens
name-returns-then-not-opens t c =
    let a = c.args in
    let other = sym c.opens.ensures ∙ c.if-not-opens.true in
    name-fault _ NoVariable a.at a.k _ _ (from-other a.fault a.k a.rest.now (omega arith) c.if-kind-eq-VALUE.false other)

pub name-returns-then-k-eq-VARIABLE_LIMIT : goal.name-returns-then-k-eq-VARIABLE_LIMIT
name-returns-then-k-eq-VARIABLE_LIMIT t c =
    let a = c.args in
    let here : is_kind (get_or a.rest.now 0 0) ≡ true = sym c.opens.ensures ∙ c.if-not-opens.false in
    name-fault _ TooManyVariables a.at a.k _ _
    (from-kind a.fault a.k a.rest.now (omega arith) here ∙ names-full a.fault a.k _ _ _ (omega arith))

pub name-returns-then-not-t : goal.name-returns-then-not-t
name-returns-then-not-t t c =
    let a = c.args in
    let here : is_kind (get_or a.rest.now 0 0) ≡ true = sym c.opens.ensures ∙ c.if-not-opens.false in
    let few : a.k < variable_limit = omega arith in
    let bad = c.take_text-t.ensures.bad (not-true c.take_text-t.result.whole c.if-not-t.true) in
    name-fault _ BadEscape a.at a.k _ _
    (from-kind a.fault a.k a.rest.now (omega arith) here ∙ rw bad (names-broken a.fault a.k _ _ few))

pub name-returns-then-t-eq0 : goal.name-returns-then-t-eq0
name-returns-then-t-eq0 t c =
    let a = c.args in
    let here : is_kind (get_or a.rest.now 0 0) ≡ true = sym c.opens.ensures ∙ c.if-not-opens.false in
    let few : a.k < variable_limit = omega arith in
    let took = c.take_text-t.ensures in
    let good = took.good (not-false c.take_text-t.result.whole c.if-not-t.false) in
    let none = empty (text_of (drop 1 a.rest.now)).bytes (omega (arith, took.count, c.if-t-eq0.true)) in
    name-fault _ NoVariable a.at a.k _ _
    (from-kind a.fault a.k a.rest.now (omega arith) here ∙ rw (good, none) (names-empty a.fault a.k _ _ few))

pub name-value-requires : goal.name-value-requires
name-value-requires t c = (search rules, (search rules, rw to_the_end (c.take_text-t.ensures.mark (not-false c.take_text-t.result.whole c.if-not-t.false))))

pub name-returns : goal.name-returns
name-returns t c =
    let a = c.args in
    let here : is_kind (get_or a.rest.now 0 0) ≡ true = sym c.opens.ensures ∙ c.if-not-opens.false in
    let few : a.k < variable_limit = omega arith in
    let took = c.take_text-t in
    name-turn a.fault a.at a.k a.rest.now a.bytes.now _ a.numbers.now took.result _ _ _ took.ensures (not-false took.result.whole c.if-not-t.false)
    (omega (arith, c.if-t-eq0.false)) (omega arith) here few c.requires.texts (rw to_the_end at c.value.ensures)

pub value-returns-then-not-t : goal.value-returns-then-not-t
value-returns-then-not-t t c =
    let a = c.args in
    let bad = c.take_value-t.ensures.bad (not-true c.take_value-t.result.whole c.if-not-t.true) a.k in
    value-fault _ BadEscape a.kind a.at a.n a.k _ _ bad

pub value-name-requires : goal.value-name-requires
value-name-requires t c = (search rules, search rules)

pub value-returns : goal.value-returns
value-returns t c =
    let a = c.args in
    let took = c.take_value-t in
    value-turn a.kind a.at a.n a.k a.rest.now a.bytes.now _ a.numbers.now took.result _ _ _ took.ensures (not-false took.result.whole c.if-not-t.false)
    (omega (arith, c.requires)) (omega (arith, c.requires)) (omega (arith, c.requires))
    (rw (to_the_end, c.store.ensures, c.mark_at.ensures) at c.name.ensures)
