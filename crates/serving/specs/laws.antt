-- parents set arc by arc, and a terminal entered node by node on the way up
pub mod WaysUp
-- terminals entered one after the other
pub mod Serving
