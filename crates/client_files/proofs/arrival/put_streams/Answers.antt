use Rattle.std.proofs.Common.{rules, tests, ◌≡◌, ℕ, ◌≤◌, ◌<◌, true, ◌&&◌, List}
use Rattle.std.specs.List.{list_all}
use Rattle.std.proofs.lemmas.Bool.{and_parts}
use Rattle.stream_table.specs.declared.Carried.{Carried}
use Rattle.stream_table.specs.Owners.{is_used, numbers_of}
use Rattle.stream_table.specs.Entries.{is_placed}
use Rattle.client_file_tables.specs.declared.ClientFiles.{ClientFiles}
use Rattle.client_files.specs.Arrivals.{are_apart, can_arrive, is_fit, is_known_so}
use Rattle.client_files.proofs.ArrivalLaws.{apart_once, each_fit, few_of, grants_of, placed_of, test_parts}
use Rattle.client_files.proofs.arrival.put_streams.Goals as goal

-- the test gives that the descriptors differ and that each item fits
parts : (pid : ℕ) (items : List Carried) (s : ClientFiles) → can_arrive pid items s ≡ true → (are_apart items ≡ true) × (list_all is_fit items ≡ true)
parts pid items s h =
    let tested = test_parts (is_used (numbers_of s.streams.owners pid)) (are_apart items) (list_all is_fit items && list_all (is_known_so s.streams.entries) items) h in
    (tested.0, (and_parts (list_all is_fit items) (list_all (is_known_so s.streams.entries) items) tested.1).0)

pub put_all-requires-clause-differ : goal.put_all-requires-clause-differ
put_all-requires-clause-differ c =
    let may : can_arrive c.args.pid c.args.carried.now c.args.files.now ≡ true = search (rules, tests, c.can_arrive.ensures, c.if-not-can_arrive.false) in
    apart_once c.args.carried.now (parts c.args.pid c.args.carried.now c.args.files.now may).0

pub put_all-requires-clause-few : goal.put_all-requires-clause-few
put_all-requires-clause-few c =
    let may : can_arrive c.args.pid c.args.carried.now c.args.files.now ≡ true = search (rules, tests, c.can_arrive.ensures, c.if-not-can_arrive.false) in
    each_fit (λ (item : Carried). item.fd < 16) c.args.carried.now few_of (parts c.args.pid c.args.carried.now c.args.files.now may).1

pub put_all-requires-clause-placed : goal.put_all-requires-clause-placed
put_all-requires-clause-placed c =
    let may : can_arrive c.args.pid c.args.carried.now c.args.files.now ≡ true = search (rules, tests, c.can_arrive.ensures, c.if-not-can_arrive.false) in
    each_fit (λ (item : Carried). is_placed item.stream ≡ true) c.args.carried.now placed_of (parts c.args.pid c.args.carried.now c.args.files.now may).1

pub put_all-requires-clause-grants : goal.put_all-requires-clause-grants
put_all-requires-clause-grants c =
    let may : can_arrive c.args.pid c.args.carried.now c.args.files.now ≡ true = search (rules, tests, c.can_arrive.ensures, c.if-not-can_arrive.false) in
    each_fit (λ (item : Carried). item.stream.grants ≤ 2000000000) c.args.carried.now grants_of (parts c.args.pid c.args.carried.now c.args.files.now may).1
