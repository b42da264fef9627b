use Rattle.std.proofs.Common.{List, ◌∙◌, ap, arith, length}
use Rattle.tp_listings.specs.declared.extent.Extent.{Extent}
use Rattle.tp_pages.specs.Texts.{page_text}
use Rattle.tp_pages.proofs.text.put_delta.Goals as goal

pub put_page-requires-clause-few : goal.put_page-requires-clause-few
put_page-requires-clause-few c = let same = ap (λ (l : List Extent). length l) c.deref.ensures.0 in omega (arith, same, c.page_of-page.ensures.few)

pub returns : goal.returns
returns c = record {
  extents = c.page_of-page.result.extents.items;
  end = c.page_of-page.result.end;
  is = c.put_page.ensures ∙ ap (λ (l : List Extent). page_text c.args.unit c.args.most l c.page_of-page.result.end) c.deref.ensures.0;
  page = c.page_of-page.ensures.page;
}
