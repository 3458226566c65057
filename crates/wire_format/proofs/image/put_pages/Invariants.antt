use Rattle.std.proofs.Common.{◌≡◌, ◌≤◌, ◌++◌, length, take}
use Rattle.std.specs.List.{flat_map}
use Rattle.wire_format.specs.Codec.{optional, text}
use Rattle.wire_format.proofs.image.put_pages.Given as goal

-- what was there, and the pages so far
abbrev pub invariant-loop-page : goal.invariant-loop-page
invariant-loop-page l = record {
  put : l.out.items ≡ l.fn.out.items ++ flat_map (optional text).spelled (take l.page l.image.pages);
  end : l.page-end ≡ length l.image.pages;
  within : l.page ≤ length l.image.pages;
}
