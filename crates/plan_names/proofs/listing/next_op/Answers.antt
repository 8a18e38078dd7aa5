-- The last answer decides what a listing asks.
use Rattle.std.proofs.Common.{◌≡◌, ◌≢◌, ℕ, true, List, [], Some, None, Result, Ok, Err, OnErr, sym, ap, subst, ◌∙◌}
use Rattle.std.proofs.lemmas.Result.{IfOk-weaker}
use Rattle.bucket_api.specs.Operation.{list}
use Rattle.bucket_api.specs.PageData.{PageData}
use Rattle.mount_rules.specs.Plans.{Step, ask, done}
use Rattle.plan_names.specs.Errands.{next_of}
use Rattle.plan_names.proofs.PageLemmas.{asks_after, ends_by_other, ends_by_page, some_key}
use Rattle.plan_names.proofs.listing.next_op.Goals as goal

-- a step that asks is not done, whatever came of it
asks : {T E : Type 0} (r : Result T E) (step : Step) (prefix : List ℕ) (max : ℕ) (key : List ℕ) → step ≡ ask (list prefix true max (Some key)) → OnErr r (step ≢ done)
asks (Ok x) step prefix max key is = tt
asks (Err e) step prefix max key is = λ ends. let never : ask (list prefix true max (Some key)) ≡ done = sym is ∙ ends in cc

pub returns-in_default-last : goal.returns-in_default-last
returns-in_default-last c = record {
  ok = sym (ap next_of (ends_by_other c.args.prefix.now c.args.page c.args.answers.now c.in-Some.last.now c.requires.asked c.in-Some.ensures.value c.in_default-last.not-Page));
  may = tt;
  err = tt;
}

pub returns-in_err-copy-in-Some-next-clause-err : goal.returns-in_err-copy-in-Some-next-clause-err
returns-in_err-copy-in-Some-next-clause-err c =
    let next : c.in-Page.last.next ≡ Some c.in-Some-next.key = ap (λ (p : PageData). p.next) (sym c.last-2.view_is) ∙ c.in-Some-next.is in
    asks c.from_residual.result _ c.args.prefix.now c.args.page c.in-Some-next.key
    (asks_after c.args.prefix.now c.args.page c.args.answers.now c.in-Some.last.now c.requires.asked c.in-Some.ensures.value c.in-Page.last c.in-Some-next.key c.in-Page.is next)

pub list-requires-in-Some-next-clause-after : goal.list-requires-in-Some-next-clause-after
list-requires-in-Some-next-clause-after c =
    let next : c.in-Page.last.next ≡ Some c.in-Some-next.key = ap (λ (p : PageData). p.next) (sym c.last-2.view_is) ∙ c.in-Some-next.is in
    subst (λ (key : List ℕ). key ≢ []) (sym c.in_ok-copy-in-Some-next.ensures.ok)
    (some_key c.args.prefix.now c.args.page c.args.answers.now c.in-Some.last.now c.requires.asked c.in-Some.ensures.value c.in-Page.last c.in-Some-next.key c.in-Page.is next)

pub returns-in_ok-copy-in-Some-next-clause-ok : goal.returns-in_ok-copy-in-Some-next-clause-ok
returns-in_ok-copy-in-Some-next-clause-ok c =
    let next : c.in-Page.last.next ≡ Some c.in-Some-next.key = ap (λ (p : PageData). p.next) (sym c.last-2.view_is) ∙ c.in-Some-next.is in
    let step = asks_after c.args.prefix.now c.args.page c.args.answers.now c.in-Some.last.now c.requires.asked c.in-Some.ensures.value c.in-Page.last c.in-Some-next.key c.in-Page.is next in
    let key = c.in_ok-copy-in-Some-next.ensures.ok in
    IfOk-weaker c.list-in-Some-next.result _ _
    (λ made is. is ∙ ap (λ k. next_of (ask (list c.args.prefix.now true c.args.page (Some k)))) key ∙ sym (ap next_of step)) c.list-in-Some-next.ensures.ok

pub returns-in_ok-copy-in-Some-next-clause-err : goal.returns-in_ok-copy-in-Some-next-clause-err
returns-in_ok-copy-in-Some-next-clause-err c =
    let next : c.in-Page.last.next ≡ Some c.in-Some-next.key = ap (λ (p : PageData). p.next) (sym c.last-2.view_is) ∙ c.in-Some-next.is in
    asks c.list-in-Some-next.result _ c.args.prefix.now c.args.page c.in-Some-next.key
    (asks_after c.args.prefix.now c.args.page c.args.answers.now c.in-Some.last.now c.requires.asked c.in-Some.ensures.value c.in-Page.last c.in-Some-next.key c.in-Page.is next)

pub returns-in-None-clause-ok : goal.returns-in-None-clause-ok
returns-in-None-clause-ok c =
    let next : c.in-Page.last.next ≡ None = ap (λ (p : PageData). p.next) (sym c.last-2.view_is) ∙ c.in-None.is in
    sym (ap next_of (ends_by_page c.args.prefix.now c.args.page c.args.answers.now c.in-Some.last.now c.requires.asked c.in-Some.ensures.value c.in-Page.last c.in-Page.is next))
