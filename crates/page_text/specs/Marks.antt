-- The markup of a page.
use Rattle.std.specs.Prelude.{ℕ, List, [], ◌∷◌, ◌++◌, codes}
use Rattle.page_text.specs.declared.marks.Tag.{Tag}
use Rattle.page_text.specs.declared.marks.Tag.TheVariants as tag
use Rattle.page_text.specs.declared.marks.Attribute.{Attribute}
use Rattle.page_text.specs.declared.marks.Attribute.TheVariants as attribute
use Rattle.page_text.specs.declared.marks.Mark.{Mark}
use Rattle.page_text.specs.declared.marks.Mark.TheVariants as mark

-- the names of the elements of HTML and SVG
abbrev pub tag_name : Tag → List ℕ
tag_name tag.Html = codes "html"
tag_name tag.Head = codes "head"
tag_name tag.Meta = codes "meta"
tag_name tag.Title = codes "title"
tag_name tag.Style = codes "style"
tag_name tag.Body = codes "body"
tag_name tag.Main = codes "main"
tag_name tag.MainHeading = codes "h1"
tag_name tag.Heading = codes "h2"
tag_name tag.Paragraph = codes "p"
tag_name tag.Break = codes "br"
tag_name tag.Division = codes "div"
tag_name tag.Span = codes "span"
tag_name tag.Link = codes "a"
tag_name tag.Details = codes "details"
tag_name tag.Summary = codes "summary"
tag_name tag.Preformatted = codes "pre"
tag_name tag.Table = codes "table"
tag_name tag.TableHead = codes "thead"
tag_name tag.TableBody = codes "tbody"
tag_name tag.TableRow = codes "tr"
tag_name tag.HeadCell = codes "th"
tag_name tag.Cell = codes "td"
tag_name tag.Svg = codes "svg"
tag_name tag.Definitions = codes "defs"
tag_name tag.Marker = codes "marker"
tag_name tag.Shape = codes "path"
tag_name tag.Group = codes "g"
tag_name tag.Line = codes "line"
tag_name tag.Rectangle = codes "rect"
tag_name tag.Text = codes "text"

-- the names of their attributes
abbrev pub attribute_name : Attribute → List ℕ
attribute_name attribute.Language = codes "lang"
attribute_name attribute.Charset = codes "charset"
attribute_name attribute.Name = codes "name"
attribute_name attribute.Content = codes "content"
attribute_name attribute.Class = codes "class"
attribute_name attribute.Identifier = codes "id"
attribute_name attribute.Target = codes "href"
attribute_name attribute.Role = codes "role"
attribute_name attribute.Label = codes "aria-label"
attribute_name attribute.Scope = codes "scope"
attribute_name attribute.TabIndex = codes "tabindex"
attribute_name attribute.ViewBox = codes "viewBox"
attribute_name attribute.Width = codes "width"
attribute_name attribute.Height = codes "height"
attribute_name attribute.X = codes "x"
attribute_name attribute.Y = codes "y"
attribute_name attribute.X1 = codes "x1"
attribute_name attribute.Y1 = codes "y1"
attribute_name attribute.X2 = codes "x2"
attribute_name attribute.Y2 = codes "y2"
attribute_name attribute.Outline = codes "d"
attribute_name attribute.ReferenceX = codes "refX"
attribute_name attribute.ReferenceY = codes "refY"
attribute_name attribute.MarkerWidth = codes "markerWidth"
attribute_name attribute.MarkerHeight = codes "markerHeight"
attribute_name attribute.Orientation = codes "orient"
attribute_name attribute.MarkerEnd = codes "marker-end"
attribute_name attribute.Anchor = codes "text-anchor"

-- what stands around them
abbrev pub mark_text : Mark → List ℕ
mark_text mark.Doctype = codes "<!doctype html>"
mark_text (mark.Begin tag) = codes "<" ++ tag_name tag
mark_text (mark.Attribute attribute) = codes " " ++ attribute_name attribute ++ 61 ∷ 34 ∷ []
mark_text mark.Quote = 34 ∷ []
mark_text mark.Inside = codes ">"
mark_text (mark.End tag) = codes "</" ++ tag_name tag ++ codes ">"
