-- What stands before a place, by its records alone.
use Rattle.std.specs.Prelude.{◌≡◌}
use Rattle.unix_calls.specs.declared.description.Description.{Description}
use Rattle.call_journal.specs.Past.{Past, past_of}

abbrev pub IsWhole : Description → Past → Type 0
IsWhole c past = past ≡ past_of c past.records
