use Rattle.std.proofs.Common.{◌≡◌, ◌∙◌, Bool, true, false, ◌&&◌, sym, ap, ap₂}
use Rattle.write_sharing.specs.Kept.{has_file, licence_behind, licence_by, licensed_by, pays_last, is_well_stopped}
use Rattle.write_sharing.proofs.sharing.take.Goals as goal

pub returns-then-is_well : goal.returns-then-is_well
returns-then-is_well c =
    let old = c.args.sharing.now in
    let e = c.args.rec.now.event in
    let opens = c.keep_opens.new.opens.entries in
    let pays = pays_last old.last (licence_by old e c.args.truncates opens) in
    let licence : c.is_licence-licence.result ≡ licence_by old e c.args.truncates opens = c.is_licence-licence.ensures ∙ ap₂ (λ (a b : Bool). licence_behind old.last e c.args.truncates a b) c.is_last_shared-was_shared.ensures c.is_last_shared-is_shared.ensures in
    let well : is_well_stopped old.stopped.keys old.called.keys c.args.rec.now.kernel e c.args.tied.now ≡ true = sym c.is_well_stopped-is_well.ensures ∙ c.if-is_well.true in
    record {
      licensed = c.settle.new.licensed.keys;
      fits_is = c.pays_last-pays.ensures ∙ ap (λ (b : Bool). pays_last old.last b) licence ∙ sym (ap (λ (b : Bool). b && pays) well);
      opens_on = c.in_ok-keep_opens.ensures;
      settled = λ file. c.in_ok-settle.ensures file ∙ ap (λ (b : Bool). licensed_by old.last b file (has_file old.licensed.keys file)) licence;
      licensed_on = c.in_ok-keep_licensed.ensures;
      grants_on = c.in_ok-keep_grants.ensures;
      stops_on = c.in_ok-keep_stops.ensures;
      called_on = c.in_ok-keep_called.ensures;
      stopped_on = c.in_ok-keep_stopped.ensures;
      last_on = c.opening_by-opening.ensures;
    }

pub returns-else-is_well : goal.returns-else-is_well
returns-else-is_well c =
    let old = c.args.sharing.now in
    let e = c.args.rec.now.event in
    let opens = c.keep_opens.new.opens.entries in
    let pays = pays_last old.last (licence_by old e c.args.truncates opens) in
    let licence : c.is_licence-licence.result ≡ licence_by old e c.args.truncates opens = c.is_licence-licence.ensures ∙ ap₂ (λ (a b : Bool). licence_behind old.last e c.args.truncates a b) c.is_last_shared-was_shared.ensures c.is_last_shared-is_shared.ensures in
    let ill : is_well_stopped old.stopped.keys old.called.keys c.args.rec.now.kernel e c.args.tied.now ≡ false = sym c.is_well_stopped-is_well.ensures ∙ c.if-is_well.false in
    record {
      licensed = c.settle.new.licensed.keys;
      fits_is = c.if-is_well.false ∙ sym (ap (λ (b : Bool). b && pays) ill);
      opens_on = c.in_ok-keep_opens.ensures;
      settled = λ file. c.in_ok-settle.ensures file ∙ ap (λ (b : Bool). licensed_by old.last b file (has_file old.licensed.keys file)) licence;
      licensed_on = c.in_ok-keep_licensed.ensures;
      grants_on = c.in_ok-keep_grants.ensures;
      stops_on = c.in_ok-keep_stops.ensures;
      called_on = c.in_ok-keep_called.ensures;
      stopped_on = c.in_ok-keep_stopped.ensures;
      last_on = c.opening_by-opening.ensures;
    }
