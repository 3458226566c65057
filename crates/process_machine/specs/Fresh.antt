-- A program's fresh image.
use Rattle.std.specs.Prelude.{ℕ, List, [], ◌∷◌, Option, Some, replicate, slice_set}
use Rattle.process_machine.specs.declared.program.Text.{Text}
use Rattle.process_machine.specs.declared.program.Program.{Program}
use Rattle.process_machine.specs.Machine.{Machine}
use Rattle.process_machine.specs.Memory.{with_bytes}

-- the pages with the texts, each over those before it
abbrev pub with_texts : List (Option (List ℕ)) → List Text → List (Option (List ℕ))
with_texts pages [] = pages
with_texts pages (text ∷ texts) = with_texts (with_bytes pages text.address text.bytes) texts

-- pages of zeros
abbrev pub zero_pages : ℕ → List (Option (List ℕ))
zero_pages count = replicate count (Some (replicate 4096 0))

-- zeros, but for the texts and the argument in register 1
abbrev pub fresh_machine : Program → ℕ → Machine
fresh_machine p arg =
    record {
      number = p.number;
      counter = 0;
      registers = slice_set (replicate 8 0) 1 arg;
      pages = with_texts (zero_pages p.pages) p.texts;
    }
