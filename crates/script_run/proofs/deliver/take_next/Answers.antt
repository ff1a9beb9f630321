use Rattle.std.proofs.Common.{ℕ, ◌<◌, length, sym, ◌∙◌, subst}
use Rattle.std.proofs.lemmas.Result.{on_ok_weaker}
use Rattle.ss_base.specs.Lists.{IsPrefixOf}
use Rattle.sheet_ops.specs.History.{own_entries}
use Rattle.jup_client.specs.declared.Down.{Down}
use Rattle.jup_client.specs.Clients.{down_at, IsTaken}
use Rattle.script_run.proofs.Deliveries.{own_down, other_down}
use Rattle.script_run.proofs.deliver.take_next.Goals as goal

pub returns-then-is_own-clause-represents : goal.returns-then-is_own-clause-represents
returns-then-is_own-clause-represents c G r mine =
    let H = c.args.history.now in
    let same = sym c.requires.number in
    let down = own_down c.args.client.now.size H c.args.site.0 c.taken-place.result (sym c.is_own.ensures ∙ c.if-is_own.true) ∙ (λ i. down_at c.args.client.now.size H (same i) (c.taken-place.ensures i)) in
    c.take_own.ensures.represents c.requires.sites H G c.requires.few c.requires.valid r c.requires.more (subst (λ (n : ℕ). IsPrefixOf (own_entries n H) G) same mine) down

pub returns-then-is_own-clause-taken : goal.returns-then-is_own-clause-taken
returns-then-is_own-clause-taken c =
    let H = c.args.history.now in
    let down = own_down c.args.client.now.size H c.args.site.0 c.taken-place.result (sym c.is_own.ensures ∙ c.if-is_own.true) ∙ (λ i. down_at c.args.client.now.size H c.args.site.0 (c.taken-place.ensures i)) in
    on_ok_weaker c.take_own.result (λ taken. subst (λ (d : Down). IsTaken c.args.client.now d c.take_own.new.self) down taken) c.take_own.ensures.done

pub returns-else-is_own-clause-represents : goal.returns-else-is_own-clause-represents
returns-else-is_own-clause-represents c G r mine =
    let H = c.args.history.now in
    let same = sym c.requires.number in
    let down = other_down c.args.client.now.size H c.args.effects.now c.args.site.0 c.taken-place.result c.requires.effects_of (subst (λ (k : ℕ). k < length H) (sym c.taken-place.ensures) c.requires.more) (sym c.is_own.ensures ∙ c.if-is_own.false) c.index-effects-place.result c.index-effects-place.is ∙ (λ i. down_at c.args.client.now.size H (same i) (c.taken-place.ensures i)) in
    c.take_other.ensures.represents c.requires.sites H G c.requires.few c.requires.valid r c.requires.more (subst (λ (n : ℕ). IsPrefixOf (own_entries n H) G) same mine) down

pub returns-else-is_own-clause-taken : goal.returns-else-is_own-clause-taken
returns-else-is_own-clause-taken c =
    let H = c.args.history.now in
    let down = other_down c.args.client.now.size H c.args.effects.now c.args.site.0 c.taken-place.result c.requires.effects_of (subst (λ (k : ℕ). k < length H) (sym c.taken-place.ensures) c.requires.more) (sym c.is_own.ensures ∙ c.if-is_own.false) c.index-effects-place.result c.index-effects-place.is ∙ (λ i. down_at c.args.client.now.size H c.args.site.0 (c.taken-place.ensures i)) in
    on_ok_weaker c.take_other.result (λ taken. subst (λ (d : Down). IsTaken c.args.client.now d c.take_other.new.self) down taken) c.take_other.ensures.done
