use Rattle.std.proofs.Common.{ℕ, not, sym, ap, subst, ◌∙◌, is_some}
use Rattle.stream_table.specs.Owners.{owners_in, is_referred, descriptor}
use Rattle.stream_table.specs.Entries.{entries_in}
use Rattle.stream_table.specs.Streams.{Table, IsTable, freed, is_last_of}
use Rattle.stream_table.proofs.ReferLaws.{descriptor_known}
use Rattle.stream_table.proofs.TableLaws.{shared_table, left_table, descriptor_open, some_numbered}
use Rattle.stream_table.proofs.streams.Streams.close.Goals as goal

pub release-requires-clause-there : goal.release-requires-clause-there
release-requires-clause-there c =
    let leads = ap (λ (t : Table). descriptor t.owners c.args.pid c.args.fd) c.self.view_is ∙ ap (λ (fd : ℕ). descriptor c.args.self.now.owners c.args.pid fd) (sym c.from.ensures) ∙ sym c.get.ensures.number ∙ c.in_ok-number.was in
    descriptor_known (owners_in c.self.inside.owners.entries) c.args.pid c.args.fd c.in_ok-number.number leads

pub invariant_of-self : goal.invariant_of-self
invariant_of-self c =
    let xs = owners_in c.self.inside.owners.entries in
    let es = entries_in c.self.inside.entries.entries in
    let n = c.in_ok-number.number in
    let leads = ap (λ (t : Table). descriptor t.owners c.args.pid c.args.fd) c.self.view_is ∙ ap (λ (fd : ℕ). descriptor c.args.self.now.owners c.args.pid fd) (sym c.from.ensures) ∙ sym c.get.ensures.number ∙ c.in_ok-number.was in
    let owners = c.release.ensures ∙ ap (freed xs c.args.pid) c.from-2.ensures in
    let more = ap (λ os. is_referred os n) (sym owners) ∙ sym c.is_referred.ensures ∙ c.if-is_referred.true in
    subst (λ os. IsTable os es) (sym owners) (shared_table xs es c.args.pid c.args.fd n c.self.invariant leads more)

pub invariant_of-self-2 : goal.invariant_of-self-2
invariant_of-self-2 c =
    let xs = owners_in c.self.inside.owners.entries in
    let es = entries_in c.self.inside.entries.entries in
    let n = c.in_ok-number.number in
    let leads = ap (λ (t : Table). descriptor t.owners c.args.pid c.args.fd) c.self.view_is ∙ ap (λ (fd : ℕ). descriptor c.args.self.now.owners c.args.pid fd) (sym c.from.ensures) ∙ sym c.get.ensures.number ∙ c.in_ok-number.was in
    let owners = c.release.ensures ∙ ap (freed xs c.args.pid) c.from-2.ensures in
    let last = ap (λ os. is_referred os n) (sym owners) ∙ sym c.is_referred.ensures ∙ c.if-is_referred.false in
    subst (λ os. IsTable os (entries_in c.leave.new.entries.entries)) (sym owners) (subst (IsTable (freed xs c.args.pid c.args.fd)) (sym c.leave.ensures) (left_table xs es c.args.pid c.args.fd n c.self.invariant leads last))

pub returns-clause-last : goal.returns-clause-last
returns-clause-last c =
    let xs = owners_in c.self.inside.owners.entries in
    let es = entries_in c.self.inside.entries.entries in
    let n = c.in_ok-number.number in
    let leads = ap (λ (t : Table). descriptor t.owners c.args.pid c.args.fd) c.self.view_is ∙ ap (λ (fd : ℕ). descriptor c.args.self.now.owners c.args.pid fd) (sym c.from.ensures) ∙ sym c.get.ensures.number ∙ c.in_ok-number.was in
    let owners = c.release.ensures ∙ ap (freed xs c.args.pid) c.from-2.ensures in
    let last = ap (λ os. is_referred os n) (sym owners) ∙ sym c.is_referred.ensures ∙ c.if-is_referred.false in
    let given = ap is_some c.numbered.ensures ∙ some_numbered n c.stream_of-stream.result ∙ ap is_some c.stream_of-stream.ensures ∙ descriptor_open xs es c.args.pid c.args.fd n c.self.invariant leads in
    rw (← c.self.view_is) (given ∙ sym (ap (is_last_of xs c.args.pid c.args.fd) leads ∙ ap not last))
