use borrow.Author.Rules.{rules}
use Rattle.line_questions.proofs.asked.position.Goals as goal

pub returns-in-ByDistance : goal.returns-in-ByDistance
returns-in-ByDistance c = rw c.in-ByDistance.is c.between_distances.ensures

pub returns-in-ByFeedDistance : goal.returns-in-ByFeedDistance
returns-in-ByFeedDistance c = rw c.in-ByFeedDistance.is c.between_feed_distances.ensures

pub returns-in-AlongVertices : goal.returns-in-AlongVertices
returns-in-AlongVertices c = rw c.in-AlongVertices.is c.of_line.ensures

pub returns-in-Polyline : goal.returns-in-Polyline
returns-in-Polyline c = rw c.in-Polyline.is c.of_part.ensures
