use Rattle.std.proofs.Common.{drop, map}
use Rattle.flp_syntax.specs.Tree.{index_items, indices}
use Rattle.flp_syntax.specs.View.{index_of, index_item_of}
use Rattle.flp_lang.specs.Print.{put_index_items, put_more_index_items, put_index_factors, put_more_index_factors}
use Rattle.flp_lang.specs.Written.{Writes}
use Rattle.flp_lang.proofs.printer.Printer.+printed_index.Given as goal

-- the further items from the index on are left
abbrev pub invariant-index_items-loop-item : goal.invariant-index_items-loop-item
invariant-index_items-loop-item l = Writes l.fn.self.text.items (put_index_items (index_items (map index_item_of l.items))) l.self.text.items (put_more_index_items (index_items (map index_item_of (drop l.item-index l.more))))

-- the further factors from the index on are left
abbrev pub invariant-index_factors-loop-factor : goal.invariant-index_factors-loop-factor
invariant-index_factors-loop-factor l = Writes l.fn.self.text.items (put_index_factors (indices (map index_of l.factors))) l.self.text.items (put_more_index_factors (indices (map index_of (drop l.factor-index l.more))))
