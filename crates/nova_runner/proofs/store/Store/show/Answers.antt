use Rattle.std.proofs.Common.{◌≡◌, ◌<◌, ◌∙◌, List, length, ap, sym, subst}
use Rattle.nova_outside.specs.History.{Event, current}
use Rattle.nova_outside.specs.Replies.{HasReplied, HasRepliedInPart}
use Rattle.nova_machine.specs.Workflow.{channel_in}
use Rattle.nova_meta.specs.Catalog.{shelf_at}
use Rattle.nova_runner.specs.Held.{Held}
use Rattle.nova_runner.specs.Reading.{ShownTold, UnshownGave, newest_text, shown_text}
use Rattle.nova_runner.proofs.Readables.{in_range}
use Rattle.nova_runner.proofs.Shows.{current_replied, shown_done, shown_in_part, unread_gave, unread_told}
use Rattle.nova_runner.proofs.store.Store.show.Goals as goal

pub version-version-requires : goal.version-version-requires
version-version-requires g c = in_range (record { journal = c.self.inside.journal; flow = c.self.inside.flow; catalog = c.self.inside.catalog; flight = c.self.inside.flight }) c.args.channel c.self.invariant (subst (λ (k : Held). c.args.channel < length k.flow.channels) (sym c.self.view_is) c.requires.channel)

pub returns-in-Ok-reply_table-clause-step : goal.returns-in-Ok-reply_table-clause-step
returns-in-Ok-reply_table-clause-step g c honest commits s x stands asks =
    let named = c.name.ensures ∙ ap (λ (k : Held). (channel_in k.flow c.args.channel).name) c.self.view_is in
    let numbered = c.version-version.ensures ∙ ap (λ (k : Held). (shelf_at k.catalog c.args.channel).version) c.self.view_is in
    let all : shown_text c.name.result.now c.version-version.result c.in-Ok.table ≡ shown_text (channel_in c.args.self.now.flow c.args.channel).name (shelf_at c.args.self.now.catalog c.args.channel).version c.in-Ok.table = λ i. shown_text (named i) (numbered i) c.in-Ok.table in
    shown_done c.args.self.now commits s x c.args.channel c.in-Ok.table (g.H.Host.history c.args.host.now) (g.H.Host.history c.table.new.host) (g.H.Host.history c.reply_table.new.host) stands asks (c.in-Ok.ensures.newest honest commits s stands) (c.in-Ok.ensures.same honest)
    (λ file at damage. let never = c.in-Ok.ensures.whole honest file at damage in cc)
    (subst (HasReplied (g.H.Host.history c.table.new.host) (g.H.Host.history c.reply_table.new.host)) all (c.in-Ok-reply_table.ensures.given honest))

pub returns-in-Ok-reply_table-clause-files : goal.returns-in-Ok-reply_table-clause-files
returns-in-Ok-reply_table-clause-files g c honest n =
    current_replied (g.H.Host.history c.table.new.host) (g.H.Host.history c.reply_table.new.host) _ (c.in-Ok-reply_table.ensures.given honest) n ∙ ap (λ (h : List Event). current h n) (c.in-Ok.ensures.same honest)

pub returns-clause-step : goal.returns-clause-step
returns-clause-step g c honest commits s x stands asks =
    let named = c.name.ensures ∙ ap (λ (k : Held). (channel_in k.flow c.args.channel).name) c.self.view_is in
    let numbered = c.version-version.ensures ∙ ap (λ (k : Held). (shelf_at k.catalog c.args.channel).version) c.self.view_is in
    let all : shown_text c.name.result.now c.version-version.result c.in-Ok.table ≡ shown_text (channel_in c.args.self.now.flow c.args.channel).name (shelf_at c.args.self.now.catalog c.args.channel).version c.in-Ok.table = λ i. shown_text (named i) (numbered i) c.in-Ok.table in
    shown_in_part c.args.self.now commits s x c.args.channel c.in-Ok.table (g.H.Host.history c.args.host.now) (g.H.Host.history c.table.new.host) (g.H.Host.history c.reply_table.new.host) stands asks (c.in-Ok.ensures.newest honest commits s stands) (c.in-Ok.ensures.same honest)
    (λ file at damage. let never = c.in-Ok.ensures.whole honest file at damage in cc)
    (subst (HasRepliedInPart (g.H.Host.history c.table.new.host) (g.H.Host.history c.reply_table.new.host)) all (c.in-Err-reply_table.ensures.given honest))

pub returns-clause-files : goal.returns-clause-files
returns-clause-files g c honest n =
    current_replied (g.H.Host.history c.table.new.host) (g.H.Host.history c.reply_table.new.host) _ (c.in-Err-reply_table.ensures.given honest).replied n ∙ ap (λ (h : List Event). current h n) (c.in-Ok.ensures.same honest)

pub returns-in-Ok-reply_table-clause-whole : goal.returns-in-Ok-reply_table-clause-whole
returns-in-Ok-reply_table-clause-whole g c honest file at damage = absurd (let never = c.in-Ok.ensures.whole honest file at damage in cc)

pub returns-in-Ok-reply_table-clause-gave : goal.returns-in-Ok-reply_table-clause-gave
returns-in-Ok-reply_table-clause-gave g c honest =
    let named = c.name.ensures ∙ ap (λ (k : Held). (channel_in k.flow c.args.channel).name) c.self.view_is in
    let numbered = c.version-version.ensures ∙ ap (λ (k : Held). (shelf_at k.catalog c.args.channel).version) c.self.view_is in
    let all : shown_text c.name.result.now c.version-version.result c.in-Ok.table ≡ newest_text c.args.self.now c.args.channel c.in-Ok.table = λ i. shown_text (named i) (numbered i) c.in-Ok.table in
    let b = g.H.Host.history c.reply_table.new.host in
    record {
      table = c.in-Ok.table;
      read = c.in-Ok.ensures.read honest;
      replied = subst (λ (h : List Event). HasReplied h b (newest_text c.args.self.now c.args.channel c.in-Ok.table)) (c.in-Ok.ensures.same honest)
          (subst (HasReplied (g.H.Host.history c.table.new.host) b) all (c.in-Ok-reply_table.ensures.given honest));
    }

pub returns-clause-gave : goal.returns-clause-gave
returns-clause-gave g c honest =
    let named = c.name.ensures ∙ ap (λ (k : Held). (channel_in k.flow c.args.channel).name) c.self.view_is in
    let numbered = c.version-version.ensures ∙ ap (λ (k : Held). (shelf_at k.catalog c.args.channel).version) c.self.view_is in
    let all : shown_text c.name.result.now c.version-version.result c.in-Ok.table ≡ newest_text c.args.self.now c.args.channel c.in-Ok.table = λ i. shown_text (named i) (numbered i) c.in-Ok.table in
    let b = g.H.Host.history c.reply_table.new.host in
    record {
      table = c.in-Ok.table;
      read = c.in-Ok.ensures.read honest;
      replied = subst (λ (h : List Event). HasRepliedInPart h b (newest_text c.args.self.now c.args.channel c.in-Ok.table)) (c.in-Ok.ensures.same honest)
          (subst (HasRepliedInPart (g.H.Host.history c.table.new.host) b) all (c.in-Err-reply_table.ensures.given honest));
    }

pub returns-in-Err-clause-gave : goal.returns-in-Err-clause-gave
returns-in-Err-clause-gave g c honest =
    let a = g.H.Host.history c.args.host.now in
    let b = g.H.Host.history c.table.new.host in
    subst (λ w. UnshownGave c.args.self.now c.args.channel a b w) (sym c.not_shown.ensures) (unread_gave c.args.self.now c.args.channel a b c.in-Err.fault (c.in-Err.ensures.same honest))

pub returns-in-Err-clause-told : goal.returns-in-Err-clause-told
returns-in-Err-clause-told g c honest =
    let files = current (g.H.Host.history c.args.host.now) in
    subst (λ w. ShownTold c.args.self.now c.args.channel files w) (sym c.not_shown.ensures) (unread_told c.args.self.now c.args.channel files c.in-Err.fault (c.in-Err.ensures.told honest))
